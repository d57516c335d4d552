-- Pairs of ends that enclose a formula, how wide they may be, and what each operation on them promises.
-- Ends are counted in units of 2^-40.
--
--     units n                  n units, as a fraction
--     milli n                  n thousandths, in units
--     held n                   n, or the largest end where n does not fit
--     Open z                   the ends are 0 and the largest: nothing is known
--     Near x φ a b n           x encloses φ, lies between a and b units, and its upper end is at most n parts in 2^40 above the lower
--     Is q r                   the fraction q is the quotient r, however it is written
--     Exact r z                z is r, each end rounded to the next unit
--     Product, Sum, Difference, Greater    z is x and y put together, each end rounded to the next unit
--     SquareRoot r z           z is the square root of r
--     UpToOne r                r is from 1/5 to 1, with a numerator below 2^13
--     Fifths k least wide r z  z is r to the k fifths
--     Raisable r e             r is from 1 to 64, and e is below 1
--     Raised r e z             z is r to the e
--
-- The operations are total: an end that does not fit is the largest number, and each law `near` has a side condition that rules
-- that out. At written numbers a side condition computes, so a caller has only to name the sizes.
-- Assumes nothing.
use Rattle.std.specs.Prelude.{◌≡◌, ℕ, ◌+◌, ◌-◌, ◌*◌, ◌/◌, ◌^◌, ◌<◌, ◌≤◌, min, max, T, nat_le, nat_lt}
use Rattle.powers.specs.declared.ends.Ends.{Ends}
use Rattle.powers.specs.declared.quotient.Quotient.{Quotient}
use Rattle.powers.specs.Fractions.{Fraction, number}
use Rattle.powers.specs.Formulas.{Formula, constant, power, ◌⊕◌, ◌⊖◌, ◌⊗◌, ◌at_least◌, NotAbove, NotBelow}

abbrev pub units : ℕ → Fraction
units n = record { num = n; den = 2 ^ 40; whole = tt }

abbrev pub milli : ℕ → ℕ
milli n = n * 2 ^ 40 / 1000

abbrev pub held : ℕ → ℕ
held n = min n 18446744073709551615

abbrev pub Open : Ends → Type 0
Open z = (z.low ≡ 0) × (z.high ≡ held (2 ^ 64))

pub record Near (x : Ends) (φ : Formula) (a b n : ℕ) : Type 0 where
  pub low : NotAbove φ (units x.low)
  pub high : NotBelow φ (units x.high)
  pub least : a ≤ x.low
  pub most : x.high ≤ b
  pub tight : x.high * 2 ^ 40 ≤ x.low * (2 ^ 40 + n)

abbrev pub Is : Fraction → Quotient → Type 0
Is q r = q.num * r.den ≡ r.num * q.den

pub record Exact (r : Quotient) (z : Ends) : Type 0 where
  pub low : z.low ≡ held (r.num * 2 ^ 40 / r.den)
  pub high : z.high ≡ held ((r.num * 2 ^ 40 + (r.den - 1)) / r.den)
  pub near : (q : Fraction) (a b : ℕ) → Is q r → a * q.den ≤ q.num * 2 ^ 40 → q.num * 2 ^ 40 ≤ b * q.den → T (nat_lt 1 a)
      → T (nat_le b (2 ^ 62)) → Near z (constant q) (a - 1) (b + 1) (1 * 2 ^ 40 / (a - 1) + 1)

-- what a product asks of the sizes and the widths of its factors
abbrev pub Room : (a b m c d n : ℕ) → Type 0
Room a b m c d n = T (nat_le (b * d) (2 ^ 102)) × T (nat_le m (2 ^ 20)) × T (nat_le n (2 ^ 20)) × T (nat_lt 0 (a * c / 2 ^ 40))

pub record Product (x y z : Ends) : Type 0 where
  pub low : z.low ≡ held (x.low * y.low / 2 ^ 40)
  pub high : z.high ≡ held ((x.high * y.high + (2 ^ 40 - 1)) / 2 ^ 40)
  pub near : {φ ψ : Formula} {a b m c d n : ℕ} → Near x φ a b m → Near y ψ c d n → Room a b m c d n
      → Near z (φ ⊗ ψ) (a * c / 2 ^ 40) (b * d / 2 ^ 40 + 1) (m + n + 2 + 3 * 2 ^ 40 / (a * c / 2 ^ 40))

pub record Sum (x y z : Ends) : Type 0 where
  pub low : z.low ≡ held (x.low + y.low)
  pub high : z.high ≡ held (x.high + y.high)
  pub near : {φ ψ : Formula} {a b m c d n : ℕ} → Near x φ a b m → Near y ψ c d n → T (nat_le (b + d) (2 ^ 62))
      → Near z (φ ⊕ ψ) (a + c) (b + d) (max m n)

pub record Difference (x y z : Ends) : Type 0 where
  pub low : z.low ≡ x.low - y.high
  pub high : z.high ≡ x.high - y.low
  pub near : {φ ψ : Formula} {a b m c d n : ℕ} → Near x φ a b m → Near y ψ c d n → T (nat_lt d a)
      → Near z (φ ⊖ ψ) (a - d) (b - c) ((b * m + d * n) / (a - d) + 1)

pub record Greater (x y z : Ends) : Type 0 where
  pub low : z.low ≡ max x.low y.low
  pub high : z.high ≡ max x.high y.high
  pub near : {φ ψ : Formula} {a b m c d n : ℕ} → Near x φ a b m → Near y ψ c d n
      → Near z (φ at_least ψ) (max a c) (max b d) (max m n)

-- The root of a quotient whose numerator is below 2^46, rounded down, and one unit more; of any other the ends are open.
pub record SquareRoot (r : Quotient) (z : Ends) : Type 0 where
  pub low : r.num < 2 ^ 46 → z.low * z.low ≤ r.num * 2 ^ 80 / r.den
  pub next : r.num < 2 ^ 46 → r.num * 2 ^ 80 / r.den < (z.low + 1) * (z.low + 1)
  pub high : r.num < 2 ^ 46 → z.high ≡ z.low + 1
  pub near : (q : Fraction) (a b : ℕ) → Is q r → a * a * q.den ≤ q.num * 2 ^ 80 → q.num * 2 ^ 80 ≤ b * b * q.den → T (nat_lt 1 a)
      → r.num < 2 ^ 46 → Near z (power q (number 1 2)) (a - 1) (b + 1) (1 * 2 ^ 40 / (a - 1) + 1)
  pub beyond : 2 ^ 46 ≤ r.num → Open z

pub record UpToOne (r : Quotient) : Type 0 where
  pub most : r.num ≤ r.den
  pub least : r.den ≤ 5 * r.num
  pub short : r.num < 2 ^ 13

pub record Fifths (k least wide : ℕ) (r : Quotient) (z : Ends) : Type 0 where
  pub near : (q : Fraction) → Is q r → UpToOne r → Near z (power q (number k 5)) least (2 ^ 40 + 2 ^ 21) wide
  pub beyond : (UpToOne r → ⊥) → Open z

pub record Raisable (base exponent : Quotient) : Type 0 where
  pub least : base.den ≤ base.num
  pub most : base.num ≤ 64 * base.den
  pub below : exponent.num < exponent.den

-- The ends are at most 2 parts in a hundred million apart.
pub record Raised (base exponent : Quotient) (z : Ends) : Type 0 where
  pub near : (q e : Fraction) → Is q base → Is e exponent → Raisable base exponent → Near z (power q e) (2 ^ 40) (65 * 2 ^ 40) 20000
  pub beyond : (Raisable base exponent → ⊥) → Open z
