use Rattle.std.proofs.Common.{SFits, w64, rules, ◌≡◌, ◌+◌, ◌-◌, ◌*◌, refl, arith, lit≤}
use Rattle.std.proofs.lemmas.Int.{to_z-of_z}
use Rattle.powers.specs.Fractions.{number, ◌*ᶠ◌}
use Rattle.powers.specs.Formulas.{constant, power, ◌⊖◌}
use Rattle.powers.specs.Enclosures.{units, milli}
use Rattle.powers.proofs.Laws.{le_refl, less, weaken, lift}
use Rattle.records.specs.Signs.{apart, lap}
use Rattle.editions.specs.Figures.{of_diameter, of_wall}
use Rattle.editions.specs.Factors.{overlapped}
use Rattle.editions.proofs.Terms.{is_same, units_le, iso_mixed}
use Rattle.editions.proofs.iso_factors.between_value.Goals as goal

pub returns : goal.returns
returns c =
    let r = c.args.r.now in
    let n = r.wall + 5 * lap r.gap - 5 * apart r.gap in
    let m = r.wall + 5 * apart r.gap - 5 * lap r.gap in
    let whole : (r.wall + 5 * lap r.gap - 5 * apart r.gap) + (r.wall + 5 * apart r.gap - 5 * lap r.gap) ≡ 2 * r.wall = omega arith in
    let fits : SFits w64 r.gap = search rules in
    let g = simp to_z-of_z at c.above-g.ensures in
    let o = simp to_z-of_z at c.below-o.ensures in
    let s = of_wall r n *ᶠ number 1 2 in
    let t = of_wall r m *ᶠ number 1 2 in
    let v = c.overlap_value-value.ensures in
    let share = c.exact-share.ensures.near s 274877906 (milli 1000) (is_same (omega arith) (omega arith)) (omega arith) (omega arith) tt tt in
    let other = c.exact-other.ensures.near t 274877906 (milli 1000) (is_same (omega arith) (omega arith)) (omega arith) (omega arith) tt tt in
    let start = c.exact-start.ensures.near (number 19 10) (milli 1900) (milli 1901) refl (lit≤ tt) (lit≤ tt) tt tt in
    let root = c.square_root-root.ensures.near (number 1 5 *ᶠ of_diameter r r.wall) (milli 141) (milli 317) (omega arith) (omega arith) (omega arith) tt (omega arith) in
    let least = c.sub-least.ensures.near start root tt in
    let all = c.add.ensures.near (c.mul-part.ensures.near share v (tt, tt, tt, tt)) (c.mul-rest.ensures.near other least (tt, tt, tt, tt)) tt in
    let low = units (milli 335) in
    weaken (lift (milli 335) (milli 334) (
      s *ᶠ low,
      t *ᶠ low,
      (s, low, le_refl, less (overlapped r) low (units c.overlap_value-value.result.low) (units_le (milli 335) _ _ tt v.least) v.low, le_refl),
      (t, low, le_refl, less (constant (number 19 10) ⊖ power (number 1 5 *ᶠ of_diameter r r.wall) (number 1 2)) low (units c.sub-least.result.low) (units_le (milli 335) _ _ tt least.least) least.low, le_refl),
      record { across = iso_mixed r.wall n m whole },
    ) (lit≤ tt) all) (tt, tt, tt)
