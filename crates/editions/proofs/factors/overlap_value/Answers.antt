use Rattle.std.proofs.Common.{◌*◌, ◌≤◌, refl, mul-le-mul, arith, lit≤}
use Rattle.powers.specs.Fractions.{number, ◌*ᶠ◌}
use Rattle.powers.specs.Enclosures.{milli}
use Rattle.powers.proofs.Laws.{weaken}
use Rattle.editions.specs.Figures.{phi}
use Rattle.editions.proofs.factors.overlap_value.Goals as goal

pub returns : goal.returns
returns c =
    let r = c.args.r.now in
    let y = r.strong in
    let w = r.walls in
    let lo : r.wall * (2 * r.fy) ≤ (4 * r.thickness) * (5 * r.fyb) = mul-le-mul (omega arith) (omega arith) in
    let hi : r.thickness * (2 * r.fyb) ≤ (2 * r.wall) * (5 * r.fy) = mul-le-mul (omega arith) (omega arith) in
    let slope = c.exact-slope.ensures.near (number 65 100 *ᶠ phi r) (milli 65) (milli 3250) refl (omega arith) (omega arith) tt tt in
    let part = c.mul-part.ensures.near slope c.gamma_root-root.ensures (tt, tt, tt, tt) in
    let start = c.exact-start.ensures.near (number 13 100) (milli 130) (milli 131) refl (lit≤ tt) (lit≤ tt) tt tt in
    weaken (c.add.ensures.near start part tt) (tt, tt, tt)
