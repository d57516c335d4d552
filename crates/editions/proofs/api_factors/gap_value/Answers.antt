use Rattle.std.proofs.lemmas.Int.{to_z-of_z}
use Rattle.std.proofs.Common.{SFits, w64, rules, ℕ, ◌-◌, ◌*◌, ◌≤◌, mul-le-mul, arith}
use Rattle.powers.proofs.Laws.{weaken}
use Rattle.records.specs.Signs.{apart}
use Rattle.editions.proofs.Terms.{cubes_is, cubes_least, cubes_most}
use Rattle.editions.specs.Api.{gapped}
use Rattle.editions.proofs.api_factors.gap_value.Goals as goal

cube_fits : (x D : ℕ) → x ≤ 10 * D → D ≤ 4000 → x * x * x ≤ 64000000000000
cube_fits x D h k = let i : x ≤ 40000 = omega arith in mul-le-mul (mul-le-mul i i) i

pub overflow_mul-rest-3 : goal.overflow_mul-rest-3
overflow_mul-rest-3 c = let s = c.args.r.now.size in omega (arith, cube_fits c.saturating_sub-rest.result c.args.r.now.diameter (omega arith) s.1)

pub overflow_add-cube : goal.overflow_add-cube
overflow_add-cube c =
    let r = c.args.r.now in
    let s = r.size in
    omega (arith, cube_fits c.saturating_sub-rest.result r.diameter (omega arith) s.1, cube_fits (10 * r.diameter) r.diameter (omega arith) s.1)

pub returns : goal.returns
returns c =
    let r = c.args.r.now in
    let D = r.diameter in
    let fits : SFits w64 r.gap = search rules in
    let x = 1 * (10 * r.diameter) - (28 * apart r.gap) * 1 in
    weaken (c.exact.ensures.near (gapped r) 1099511627776 1319413953332
    (cubes_is D x c.saturating_sub-rest.result (omega (arith, simp to_z-of_z at c.above.ensures, c.saturating_sub-rest.ensures)))
    (cubes_least D x) (cubes_most D x (omega arith)) tt tt) (tt, tt, tt)
