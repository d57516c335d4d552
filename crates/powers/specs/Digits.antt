-- A power of a base by the binary digits of its exponent, one at a time.
--
--     binary k j             k / 2^j
--     Halved x z             z is the square root of x's lower end, rounded down, and two units more
--     Reached s q k j        after j digits, which make the number k: s encloses q ^ (1 / 2^j) and q ^ (k / 2^j)
--     Stepped s digit t      t is s after one digit more
--
-- Assumes nothing.
use Rattle.std.specs.Prelude.{◌≡◌, ℕ, ◌+◌, ◌*◌, ◌^◌, ◌<◌, ◌≤◌, Bool, cond}
use Rattle.std.proofs.Common.{pow_pos}
use Rattle.powers.specs.declared.ends.Ends.{Ends}
use Rattle.powers.specs.declared.walked.Walked.{Walked}
use Rattle.powers.specs.Fractions.{Fraction, quotient}
use Rattle.powers.specs.Formulas.{power}
use Rattle.powers.specs.Enclosures.{Near}

abbrev pub binary : ℕ → ℕ → Fraction
binary k j = quotient k (2 ^ j) (pow_pos j)

-- Where x is at least 1 and at most two units wide, z encloses the root of all that x does.
pub record Halved (x z : Ends) : Type 0 where
  pub low : z.low * z.low ≤ x.low * 2 ^ 40
  pub next : x.low * 2 ^ 40 < (z.low + 1) * (z.low + 1)
  pub high : z.high ≡ z.low + 2

-- The root is at most 63 / 2^j above 1, and the widths stay below 7 units for each digit.
pub record Reached (s : Walked) (q : Fraction) (k j : ℕ) : Type 0 where
  pub root : Near s.root (power q (binary 1 j)) (2 ^ 40) (65 * 2 ^ 40) 2
  pub close : s.root.high ≤ s.root.low + 2
  pub nearer : s.root.low * 2 ^ j ≤ 2 ^ 40 * 2 ^ j + 63 * 2 ^ 40
  pub product : Near s.product (power q (binary k j)) (2 ^ 40) (65 * 2 ^ 40) (7 * j)

pub record Stepped (s : Walked) (digit : Bool) (t : Walked) : Type 0 where
  pub reached : (q : Fraction) (k j : ℕ) → q.den ≤ q.num → q.num ≤ 64 * q.den → j < 32 → k < 2 ^ j → Reached s q k j
      → Reached t q (2 * k + cond digit 1 0) (j + 1)
