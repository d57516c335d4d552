-- The ends of a sum with one part squared.
use Rattle.std.proofs.Common.{ℕ, ◌+◌, ◌*◌, ◌/◌, ◌<◌, ◌≤◌, inl, inr, mul-le-mul_right, mul-le-mul, arith}
use Rattle.std.proofs.lemmas.Bool.{cases_lt}
use Rattle.std.specs.Int.{div_ceil}
use Rattle.powers.specs.Fractions.{Fraction, ◌≤ᶠ◌, ◌<ᶠ◌, ◌+ᶠ◌}
use Rattle.verdicts.specs.Reckoners.{whole_number, squared}
use Rattle.editions.specs.Meanings.{millionths}
use Rattle.powers.proofs.Laws.{le_trans, lt_le_trans, add_mono, mul_mono}

-- a square, in millionths
square_low : (a : ℕ) (f : Fraction) → millionths a ≤ᶠ f → millionths (a * a / 1000000) ≤ᶠ squared f
square_low a f p = le_trans {g = squared (millionths a)} (record { across = omega arith }) (mul_mono p p)

square_high : (a : ℕ) (f : Fraction) → f ≤ᶠ millionths a → squared f ≤ᶠ millionths (div_ceil (a * a) 1000000)
square_high a f p = le_trans {g = squared (millionths a)} (mul_mono p p) (record { across = omega arith })

join : (a b : ℕ) → millionths a +ᶠ millionths b ≤ᶠ millionths (a + b)
join a b = record { across = omega arith }

part : (a b : ℕ) → millionths (a + b) ≤ᶠ millionths a +ᶠ millionths b
part a b = record { across = omega arith }

pub sum_low : (a i o : ℕ) (f g h : Fraction) → millionths a ≤ᶠ f → millionths i ≤ᶠ g → millionths o ≤ᶠ h
    → millionths (a + i * i / 1000000 + o) ≤ᶠ f +ᶠ squared g +ᶠ h
sum_low a i o f g h p q r =
    le_trans (part (a + i * i / 1000000) o) (add_mono (le_trans (part a (i * i / 1000000)) (add_mono p (square_low i g q))) r)

pub sum_high : (a i o : ℕ) (f g h : Fraction) → f ≤ᶠ millionths a → g ≤ᶠ millionths i → h ≤ᶠ millionths o
    → f +ᶠ squared g +ᶠ h ≤ᶠ millionths (a + div_ceil (i * i) 1000000 + o)
sum_high a i o f g h p q r =
    le_trans (add_mono (le_trans (add_mono p (square_high i g q)) (join a (div_ceil (i * i) 1000000))) r) (join (a + div_ceil (i * i) 1000000) o)

-- Where each ratio's ends are in order, so are those of the sum.
pub sum_ordered : (a a' i i' o o' : ℕ) → a ≤ a' → i ≤ i' → o ≤ o' → a + i * i / 1000000 + o ≤ a' + div_ceil (i' * i') 1000000 + o'
sum_ordered a a' i i' o o' p q r = let s : i * i ≤ i' * i' = mul-le-mul q q in omega (arith, s)

-- Where each ratio's ends are close, so are those of the sum.
pub sum_close : (a a' i i' o o' : ℕ) → a' * 1000000 ≤ a * 1000700 + 2000700 → i' * 1000000 ≤ i * 1000700 + 2000700 → o' * 1000000 ≤ o * 1000700 + 2000700
    → (a' + div_ceil (i' * i') 1000000 + o') * 400 ≤ (a + i * i / 1000000 + o) * 401 + 8000
sum_close a a' i i' o o' p q r = elim (cases_lt i 500000) [ inl k ↦ small k | inr k ↦ large k ]
  where
    s : (i' * 1000000) * (i' * 1000000) ≤ (i * 1000700 + 2000700) * (i * 1000700 + 2000700)
    s = mul-le-mul q q

    small : i < 500000 → (a' + div_ceil (i' * i') 1000000 + o') * 400 ≤ (a + i * i / 1000000 + o) * 401 + 8000
    small k = omega (arith, s)

    large : 500000 ≤ i → (a' + div_ceil (i' * i') 1000000 + o') * 400 ≤ (a + i * i / 1000000 + o) * 401 + 8000
    large k = let t : 500000 * i ≤ i * i = mul-le-mul_right i k in omega (arith, s, t)

-- parts of a sum
left_le : (f g : Fraction) → f ≤ᶠ f +ᶠ g
left_le f g = record { across = omega arith }

right_le : (f g : Fraction) → g ≤ᶠ f +ᶠ g
right_le f g = record { across = omega arith }

pub first_le : (f g h : Fraction) → f ≤ᶠ f +ᶠ g +ᶠ h
first_le f g h = le_trans (left_le f g) (left_le (f +ᶠ g) h)

pub second_le : (f g h : Fraction) → g ≤ᶠ f +ᶠ g +ᶠ h
second_le f g h = le_trans (right_le f g) (left_le (f +ᶠ g) h)

pub third_le : (f g h : Fraction) → h ≤ᶠ f +ᶠ g +ᶠ h
third_le f g h = right_le (f +ᶠ g) h

pub over_ten : (low : ℕ) (f : Fraction) → 10000000 < low → millionths low ≤ᶠ f → whole_number 10 <ᶠ f
over_ten low f h p = lt_le_trans {g = millionths low} (record { across = omega arith }) p

pub over_one : (low : ℕ) (f : Fraction) → 1000000 < low → millionths low ≤ᶠ f → whole_number 1 <ᶠ f
over_one low f h p = lt_le_trans {g = millionths low} (record { across = omega arith }) p

pub square_over_one : (low : ℕ) (f : Fraction) → 10000000 < low → millionths low ≤ᶠ f → whole_number 1 <ᶠ squared f
square_over_one low f h p =
    let l : 10000000 ≤ low = omega arith in
    let s : 10000000 * 10000000 ≤ low * low = mul-le-mul l l in
    lt_le_trans {g = squared (millionths low)} (record { across = omega (arith, s) }) (mul_mono p p)

pub under_one : (high : ℕ) (f : Fraction) → high ≤ 1000000 → f ≤ᶠ millionths high → f ≤ᶠ whole_number 1
under_one high f h p = le_trans {g = millionths high} p (record { across = omega arith })
