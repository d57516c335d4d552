-- What the steps of reading a number promise one another. The promise to callers is in Numbers.
--
--     IsPlain n bs         the bytes bs are the decimal text of n, which has at most ten digits
--     ReadsPlain bs r      r is the number that bs is the text of, or none where there is no such number
--     ReadsSigned bs r     the same with a sign
--
-- Assumes nothing.
use Rattle.std.specs.Prelude.{◌≡◌, ℕ, ◌<◌, List, ℤ, Some, None, decimal, Option}
use Rattle.cards.specs.Numbers.{IsText}

abbrev pub IsPlain : ℕ → List ℕ → Type 0
IsPlain n bs = (n < 10000000000) × (bs ≡ decimal n)

abbrev pub ReadsPlain : List ℕ → Option ℕ → Type 0
ReadsPlain bs None = (n : ℕ) → IsPlain n bs → ⊥
ReadsPlain bs (Some m) = IsPlain m bs

abbrev pub ReadsSigned : List ℕ → Option ℤ → Type 0
ReadsSigned bs None = (z : ℤ) → IsText z bs → ⊥
ReadsSigned bs (Some z) = IsText z bs
