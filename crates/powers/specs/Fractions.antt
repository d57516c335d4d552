-- Fractions of whole numbers, compared by multiplying across.
--
--     Fraction             a quotient num / den, with a denominator that is not 0
--     Positive             a fraction above 0
--     f ≤ᶠ g, f <ᶠ g       f is at most g, is below g: the products across are in that order, so equal quotients are one fraction
--     quotient n d p       n / d, given that d is not 0
--     number n d           n / d for a written number, as number 19 10 for 1.9
--     positive_of f p      f, given that it is above 0
--     f +ᶠ g, f *ᶠ g       the sum and the product
--     f −ᶠ g               the difference, 0 where g is the greater
--     f ^ᶠ n               the power
--     f ÷ p                f divided by a positive fraction
--     p *⁺ q, p ÷⁺ q       the product and the quotient of two positive ones
--     f at_most g          the lesser of the two
--
-- Assumes nothing.
use Rattle.std.specs.Prelude.{ℕ, ◌+◌, ◌-◌, ◌*◌, ◌^◌, ◌<◌, ◌≤◌, max, cond, T, nat_le, nat_lt}
use Rattle.std.proofs.Common.{mul-pos, ltb→lt, lt→ltb}
use Rattle.std.proofs.Math.Nat.{one-le-pow, le-max_left}

infix 50 ◌≤ᶠ◌
infix 50 ◌<ᶠ◌
infixl 55 ◌at_most◌
infixl 60 ◌+ᶠ◌
infixl 60 ◌−ᶠ◌
infixl 70 ◌*ᶠ◌
infixl 70 ◌÷◌
infixl 70 ◌÷⁺◌
infixl 70 ◌*⁺◌
infixr 80 ◌^ᶠ◌
pub record Fraction : Type 0 where
  pub num : ℕ
  pub den : ℕ
  pub whole : T (nat_lt 0 den)

pub den_positive : (f : Fraction) → 0 < f.den
den_positive f = ltb→lt 0 f.den f.whole

pub record Positive : Type 0 where
  pub value : Fraction
  pub above : T (nat_lt 0 value.num)

pub num_positive : (p : Positive) → 0 < p.value.num
num_positive p = ltb→lt 0 p.value.num p.above

pub record ◌≤ᶠ◌ (f g : Fraction) : Type 0 where
  pub across : f.num * g.den ≤ g.num * f.den

pub record ◌<ᶠ◌ (f g : Fraction) : Type 0 where
  pub across : f.num * g.den < g.num * f.den

abbrev pub quotient : (n d : ℕ) → 0 < d → Fraction
quotient n d p = record { num = n; den = d; whole = lt→ltb 0 d p }

-- The greater of 1 and d is d for every number that anyone writes down.
abbrev pub number : ℕ → ℕ → Fraction
number n d = quotient n (max 1 d) (le-max_left 1 d)

abbrev pub positive_of : (f : Fraction) → 0 < f.num → Positive
positive_of f p = record { value = f; above = lt→ltb 0 f.num p }

abbrev pub ◌+ᶠ◌ : Fraction → Fraction → Fraction
f +ᶠ g = quotient (f.num * g.den + g.num * f.den) (f.den * g.den) (mul-pos (den_positive f) (den_positive g))

abbrev pub ◌−ᶠ◌ : Fraction → Fraction → Fraction
f −ᶠ g = quotient (f.num * g.den - g.num * f.den) (f.den * g.den) (mul-pos (den_positive f) (den_positive g))

abbrev pub ◌*ᶠ◌ : Fraction → Fraction → Fraction
f *ᶠ g = quotient (f.num * g.num) (f.den * g.den) (mul-pos (den_positive f) (den_positive g))

abbrev pub ◌^ᶠ◌ : Fraction → ℕ → Fraction
f ^ᶠ n = quotient (f.num ^ n) (f.den ^ n) (one-le-pow n f.den (den_positive f))

abbrev pub ◌÷◌ : Fraction → Positive → Fraction
f ÷ p = quotient (f.num * p.value.den) (f.den * p.value.num) (mul-pos (den_positive f) (num_positive p))

abbrev pub ◌*⁺◌ : Positive → Positive → Positive
p *⁺ q = positive_of (p.value *ᶠ q.value) (mul-pos (num_positive p) (num_positive q))

abbrev pub ◌÷⁺◌ : Positive → Positive → Positive
p ÷⁺ q = positive_of (p.value ÷ q) (mul-pos (num_positive p) (den_positive q.value))

abbrev pub ◌at_most◌ : Fraction → Fraction → Fraction
f at_most g = cond (nat_le (f.num * g.den) (g.num * f.den)) f g
