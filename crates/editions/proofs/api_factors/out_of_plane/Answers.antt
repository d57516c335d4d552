use Rattle.std.proofs.Common.{refl, arith, lit≤}
use Rattle.powers.specs.Fractions.{number, ◌+ᶠ◌, ◌*ᶠ◌}
use Rattle.powers.specs.Enclosures.{milli}
use Rattle.powers.proofs.Laws.{weaken}
use Rattle.editions.specs.Figures.{beta, gamma}
use Rattle.editions.proofs.api_factors.out_of_plane.Goals as goal

pub returns : goal.returns
returns c =
    let r = c.args.r.now in
    let slope = c.exact-slope.ensures.near (number 45 10 +ᶠ number 2 10 *ᶠ gamma r) (milli 6500) (milli 14500) (omega arith) (omega arith) (omega arith) tt tt in
    let power = c.thirteen_fifths-power.ensures.near (beta r) c.beta.ensures.is c.beta.ensures.range in
    let part = c.mul-part.ensures.near slope power (tt, tt, tt, tt) in
    let start = c.exact-start.ensures.near (number 25 10) (milli 2500) (milli 2501) refl (lit≤ tt) (lit≤ tt) tt tt in
    weaken (c.add.ensures.near start part tt) (tt, tt, tt)
