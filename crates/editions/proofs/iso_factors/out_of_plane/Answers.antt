use Rattle.std.proofs.Common.{◌*◌, ◌≤◌, refl, mul-le-mul, mul-pos, arith, lit≤}
use Rattle.powers.specs.Fractions.{number, ◌*ᶠ◌}
use Rattle.powers.specs.Enclosures.{milli}
use Rattle.powers.proofs.Laws.{weaken}
use Rattle.editions.specs.Figures.{beta, gamma, diameter_positive}
use Rattle.editions.proofs.iso_factors.out_of_plane.Goals as goal

pub returns : goal.returns
returns c =
    let r = c.args.r.now in
    let w = r.slim in
    let s : r.brace * r.brace ≤ r.diameter * r.diameter = mul-le-mul w.1 w.1 in
    let p = mul-pos (diameter_positive r) (diameter_positive r) in
    let start = c.exact-start.ensures.near (number 32 10) (milli 3200) (milli 3201) refl (lit≤ tt) (lit≤ tt) tt tt in
    let g = c.gamma.result.whole in
    let power = c.power_below-power.ensures.near (gamma r) (number 1 2 *ᶠ (beta r *ᶠ beta r)) c.gamma.ensures.is (omega arith)
    (record { least = omega (arith, c.gamma.ensures.range); most = omega (arith, c.gamma.ensures.range); below = omega arith }) in
    weaken (c.mul.ensures.near start power (tt, tt, tt, tt)) (tt, tt, tt)
