use Rattle.std.proofs.Common.{◌≡◌, ℕ, ◌+◌, ◌-◌, ◌*◌, ◌^◌, ◌≤◌, sym, ap, mul-le-mul_right, mul-le-mul_left, arith}
use Rattle.powers.specs.Fractions.{number, ◌+ᶠ◌, ◌−ᶠ◌, ◌*ᶠ◌}
use Rattle.powers.specs.Enclosures.{milli}
use Rattle.powers.proofs.Laws.{weaken}
use Rattle.editions.specs.Figures.{beta, gamma}
use Rattle.editions.proofs.factors.x_tension_factor.Goals as goal

-- N over 10 D T is the strength, with y = 10 d − 9 D
module _ (D T y N : ℕ) (e : N + 220 * (y * T) ≡ 207 * (D * T) + 85 * (y * D)) where
  num_is : (207 * ((D * 10) * (1 * T)) + (y * (17 * (5 * D))) * 10) * ((D * 10) * 1) - (y * 220) * (10 * ((D * 10) * (1 * T))) ≡ 100 * (D * N)
  num_is = omega (arith, ap (λ (k : ℕ). D * k) e)

  is : ((207 * ((D * 10) * (1 * T)) + (y * (17 * (5 * D))) * 10) * ((D * 10) * 1) - (y * 220) * (10 * ((D * 10) * (1 * T)))) * (10 * (D * T)) ≡ N * ((10 * ((D * 10) * (1 * T))) * ((D * 10) * 1))
  is = rw num_is (omega arith)

  low : 2 * T ≤ D → y ≤ D → 17152381393305 * ((10 * ((D * 10) * (1 * T))) * ((D * 10) * 1)) ≤ ((207 * ((D * 10) * (1 * T)) + (y * (17 * (5 * D))) * 10) * ((D * 10) * 1) - (y * 220) * (10 * ((D * 10) * (1 * T)))) * 2 ^ 40
  low h k =
      let least : 157 * (D * T) ≤ N = omega (arith, mul-le-mul_left y h, mul-le-mul_right T k) in
      rw num_is (omega (arith, mul-le-mul_left D least))

  high : D ≤ 10 * T → y ≤ D → ((207 * ((D * 10) * (1 * T)) + (y * (17 * (5 * D))) * 10) * ((D * 10) * 1) - (y * 220) * (10 * ((D * 10) * (1 * T)))) * 2 ^ 40 ≤ 92139074407628 * ((10 * ((D * 10) * (1 * T))) * ((D * 10) * 1))
  high h k =
      let most : N ≤ 837 * (D * T) = omega (arith, mul-le-mul_left y h, mul-le-mul_right T k) in
      rw num_is (omega (arith, mul-le-mul_left D most))

pub returns-then-not-beta_above_nine_tenths : goal.returns-then-not-beta_above_nine_tenths
returns-then-not-beta_above_nine_tenths c =
    let r = c.args.r.now in
    rw (sym c.if-not-beta_above_nine_tenths.ensures)
    (weaken (c.exact-low.ensures.near (number 23 1 *ᶠ beta r) (milli 4600) (milli 23000) (omega arith) (omega arith) (omega arith) tt tt) (tt, tt, tt))

pub returns : goal.returns
returns c =
    let r = c.args.r.now in
    let D = r.diameter in
    let T = r.wall in
    let l = r.slim in
    let y = r.brace * 10 - 9 * r.diameter in
    let same : 10 * r.brace - 9 * r.diameter ≡ r.brace * 10 - 9 * r.diameter = omega arith in
    let k : r.brace * 10 - 9 * r.diameter ≤ r.diameter = omega arith in
    let N = 207 * (r.diameter * r.wall) + 85 * ((10 * r.brace - 9 * r.diameter) * r.diameter) - 220 * ((10 * r.brace - 9 * r.diameter) * r.wall) in
    let e : N + 220 * ((r.brace * 10 - 9 * r.diameter) * r.wall) ≡ 207 * (r.diameter * r.wall) + 85 * ((r.brace * 10 - 9 * r.diameter) * r.diameter) = rw same (omega (arith, mul-le-mul_left (r.brace * 10 - 9 * r.diameter) r.thick.1, mul-le-mul_right r.wall k)) in
    let over = beta r −ᶠ number 9 10 in
    rw (sym c.if-not-beta_above_nine_tenths.ensures)
    (weaken (c.exact.ensures.near (number 207 10 +ᶠ over *ᶠ (number 17 1 *ᶠ gamma r) −ᶠ over *ᶠ number 220 1) 17152381393305 92139074407628
    (is D T y N e) (low D T y N e r.thick.1 k) (high D T y N e r.thick.2 k) tt tt) (tt, tt, tt))
