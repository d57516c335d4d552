-- Bounds of the numbers that a check works with.
use Rattle.std.proofs.Common.{◌≡◌, ℕ, ◌+◌, ◌-◌, ◌*◌, ◌/◌, ◌<◌, ◌≤◌, sym, subst, mul-le-mul_left, div-mul-le_self, le_of_mul-le-mul_right, arith}
use Rattle.std.specs.Int.{div_ceil}
use Rattle.std.proofs.lemmas.Grind.{div_ceil_times}
use native.Mathlib.Nat.{lt-div-mul-add}

module _ (k y x : ℕ) (shared : k + y + x ≡ 1000) where
  pub sum_least : (a b c : ℕ) → 10000 ≤ a → 10000 ≤ b → 10000 ≤ c → 10000000 ≤ k * a + y * b + x * c
  sum_least a b c p q r = omega (arith, mul-le-mul_left k p, mul-le-mul_left y q, mul-le-mul_left x r)

  pub sum_most : (a b c : ℕ) → a ≤ 2000000000 → b ≤ 2000000000 → c ≤ 2000000000 → k * a + y * b + x * c ≤ 2000000000000
  sum_most a b c p q r = omega (arith, mul-le-mul_left k p, mul-le-mul_left y q, mul-le-mul_left x r)

pub sum_order : (k y x a b c a' b' c' : ℕ) → a ≤ a' → b ≤ b' → c ≤ c' → k * a + y * b + x * c ≤ k * a' + y * b' + x * c'
sum_order k y x a b c a' b' c' p q r = omega (arith, mul-le-mul_left k p, mul-le-mul_left y q, mul-le-mul_left x r)

pub sum_near : (k y x a b c a' b' c' : ℕ) → a' * 1000000 ≤ a * 1000700 → b' * 1000000 ≤ b * 1000700 → c' * 1000000 ≤ c * 1000700
    → (k * a' + y * b' + x * c') * 1000000 ≤ (k * a + y * b + x * c) * 1000700
sum_near k y x a b c a' b' c' p q r = omega (arith, mul-le-mul_left k p, mul-le-mul_left y q, mul-le-mul_left x r)

pub scaled_near : (s a a' : ℕ) → a' * 1000000 ≤ a * 1000700 → s * a' * 1000000 ≤ s * a * 1000700
scaled_near s a a' p = omega (arith, mul-le-mul_left s p)

-- an edition's width of at most 700 parts in a million
pub told_near : (low high width : ℕ) → low ≤ high → width ≤ 700 → (high - low) * 1000000 ≤ low * width → high * 1000000 ≤ low * 1000700
told_near low high width o w h = omega (arith, mul-le-mul_left low w)

-- the ends of a quotient, and how far they lie apart
module _ (load low high : ℕ) (firm : 0 < low) (order : low ≤ high) where
  private_high : 0 < high
  private_high = omega arith

  pub quotient_low : load / high * high ≤ load
  quotient_low = div-mul-le_self load high

  pub quotient_high : load ≤ div_ceil load low * low
  quotient_high = (div_ceil_times load low firm).0

  quotient_over : div_ceil load low * low < load + low
  quotient_over = (div_ceil_times load low firm).1

  pub quotient_order : load / high ≤ div_ceil load low
  quotient_order = le_of_mul-le-mul_right {k = low} (omega (arith, quotient_low, quotient_high, mul-le-mul_left (load / high) order)) firm

  pub quotient_near : high * 1000000 ≤ low * 1000700 → div_ceil load low * 1000000 ≤ load / high * 1000700 + 2000700
  quotient_near near =
      let a = load / high in
      let z = div_ceil load low in
      let over : z * low < load + low = quotient_over in
      let under : load < a * high + high = lt-div-mul-add {a = load} {b = high} private_high in
      let wide : a * (high * 1000000) ≤ a * (low * 1000700) = mul-le-mul_left a near in
      le_of_mul-le-mul_right {k = low} (omega arith) firm

-- The sizes of a resistance r times l to r times h.
abbrev Sized : ℕ → ℕ → ℕ → Type 0
Sized r l h = (100000000000 ≤ r * l) × (r * l ≤ r * h) × (r * h ≤ 100000000000000000000000) × (r * h * 1000000 ≤ r * l * 1000700)

pub sized_at : (r a b l h : ℕ) → l ≡ a → h ≡ b → Sized r a b → Sized r l h
sized_at r a b l h p q s = subst (λ x. Sized r x h) (sym p) (subst (λ y. Sized r a y) (sym q) s)
