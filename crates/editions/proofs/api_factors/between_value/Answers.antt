use Rattle.std.proofs.Common.{SFits, w64, rules, ◌≡◌, ◌+◌, ◌-◌, ◌*◌, arith, lit≤}
use Rattle.std.proofs.lemmas.Int.{to_z-of_z}
use Rattle.powers.specs.Fractions.{number, ◌*ᶠ◌}
use Rattle.powers.specs.Enclosures.{units, milli}
use Rattle.powers.proofs.Laws.{le_refl, less, weaken, lift}
use Rattle.records.specs.Signs.{apart, lap}
use Rattle.editions.specs.Figures.{of_diameter}
use Rattle.editions.specs.Factors.{overlapped}
use Rattle.editions.proofs.Terms.{is_same, units_le, api_mixed}
use Rattle.editions.proofs.api_factors.between_value.Goals as goal

pub returns : goal.returns
returns c =
    let r = c.args.r.now in
    let n = r.diameter + 20 * lap r.gap - 20 * apart r.gap in
    let m = r.diameter + 20 * apart r.gap - 20 * lap r.gap in
    let whole : (r.diameter + 20 * lap r.gap - 20 * apart r.gap) + (r.diameter + 20 * apart r.gap - 20 * lap r.gap) ≡ 2 * r.diameter = omega arith in
    let fits : SFits w64 r.gap = search rules in
    let g = simp to_z-of_z at c.above-g.ensures in
    let o = simp to_z-of_z at c.below-o.ensures in
    let s = of_diameter r n *ᶠ number 1 2 in
    let t = of_diameter r m *ᶠ number 1 2 *ᶠ number 11272112 10000000 in
    let v = c.overlap_value-value.ensures in
    let share = c.exact-share.ensures.near s 137438953 (milli 1000) (is_same (omega arith) (omega arith)) (omega arith) (omega arith) tt tt in
    let rest = c.exact-rest.ensures.near t 154914310 (milli 1128) (is_same (omega arith) (omega arith)) (omega arith) (omega arith) tt tt in
    let all = c.add.ensures.near (c.mul-part.ensures.near share v (tt, tt, tt, tt)) rest tt in
    weaken (lift (milli 335) (milli 334) (s *ᶠ units (milli 335), t, (s, units (milli 335), le_refl, less (overlapped r) (units (milli 335)) (units c.overlap_value-value.result.low) (units_le (milli 335) _ _ tt v.least) v.low, le_refl), le_refl, record { across = api_mixed r.diameter n m whole }) (lit≤ tt) all) (tt, tt, tt)
