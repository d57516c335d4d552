use Rattle.std.proofs.Common.{arith}
use Rattle.powers.specs.Fractions.{number, ◌*ᶠ◌}
use Rattle.powers.specs.Enclosures.{milli}
use Rattle.powers.proofs.Laws.{weaken}
use Rattle.editions.specs.Figures.{beta}
use Rattle.editions.proofs.iso_factors.in_plane.Goals as goal

pub returns : goal.returns
returns c =
    let r = c.args.r.now in
    let slope = c.exact-slope.ensures.near (number 45 10 *ᶠ beta r) (milli 900) (milli 4500) (omega arith) (omega arith) (omega arith) tt tt in
    weaken (c.mul.ensures.near slope c.gamma_root-root.ensures (tt, tt, tt, tt)) (tt, tt, tt)
