use Rattle.std.proofs.Common.{arith}
use Rattle.powers.specs.Fractions.{number, ◌+ᶠ◌, ◌*ᶠ◌}
use Rattle.powers.specs.Enclosures.{milli}
use Rattle.powers.proofs.Laws.{weaken}
use Rattle.editions.specs.Figures.{beta, gamma}
use Rattle.editions.proofs.api_factors.in_plane.Goals as goal

pub returns : goal.returns
returns c =
    let r = c.args.r.now in
    let slope = c.exact-slope.ensures.near (number 5 1 +ᶠ number 7 10 *ᶠ gamma r) (milli 12000) (milli 40000) (omega arith) (omega arith) (omega arith) tt tt in
    let power = c.six_fifths-power.ensures.near (beta r) c.beta.ensures.is c.beta.ensures.range in
    weaken (c.mul.ensures.near slope power (tt, tt, tt, tt)) (tt, tt, tt)
