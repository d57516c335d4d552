-- What follows where no figure is outside its limits.
use Rattle.std.proofs.Common.{◌≡◌, ℕ, suc, ◌+◌, ◌*◌, ◌^◌, ◌<◌, ◌≤◌, Bool, true, false, cond, ◌||◌, T, List, [], ◌∷◌, ◌++◌, ℤ, pos, negsuc, ◌+ℤ◌, ◌*ℤ◌, nat_abs, ◌≤ℤ◌, Some, None, Option, refl, mul-le-mul_right, arith, w64, Fits, SFits, to_z, of_z}
use lib.Signed.{lt_z, non_neg}
use mir.Syntax.{w128}
use borrow.Author.Differences.{ints, lt-false, at_most_in}
use Rattle.std.proofs.lemmas.Int.{to_z-of_z}
use Rattle.records.specs.declared.limits.Figure.{Figure}
use Rattle.records.specs.declared.limits.Limit.{Limit}
use Rattle.records.specs.Signs.{size, apart, lap}
use Rattle.records.specs.declared.limits.Misfit.{Misfit}
use Rattle.records.specs.declared.limits.Misfit.TheVariants.{SharesSum}
use Rattle.std.specs.Option.{option_or}
use Rattle.records.specs.Limits.{outside, first_figure_outside, sum_fault}

abbrev pub Holding : List Limit → Type 0
Holding [] = Unit {0}
Holding (l ∷ ls) = (l.low ≤ℤ l.value) × (l.value ≤ℤ l.high) × Holding ls

pub held : (ls : List Limit) → first_figure_outside ls ≡ None → Holding ls
unfolding first_figure_outside
held [] e = tt
held (l ∷ ls) e = go (lt_z l.value l.low) (lt_z l.high l.value) refl refl e (held ls)
  where
    go : (a b : Bool) → lt_z l.value l.low ≡ a → lt_z l.high l.value ≡ b → ◌≡◌ {A = Option Figure} (cond (a || b) (Some l.figure) (first_figure_outside ls)) None → (first_figure_outside ls ≡ None → Holding ls) → Holding (l ∷ ls)
    go false false p q r k = (at_most_in l.low l.value (lt-false l.value l.low p), at_most_in l.value l.high (lt-false l.high l.value q), k r)
    go false true p q r k = let z : ◌≡◌ {A = ℕ} 0 1 = cc in absurd (omega arith)
    go true false p q r k = let z : ◌≡◌ {A = ℕ} 0 1 = cc in absurd (omega arith)
    go true true p q r k = let z : ◌≡◌ {A = ℕ} 0 1 = cc in absurd (omega arith)

-- rows before others: theirs is the first figure outside, and where they name none, that of the others
pub first_of_both : (ls ms : List Limit) → first_figure_outside (ls ++ ms) ≡ option_or (first_figure_outside ls) (first_figure_outside ms)
unfolding first_figure_outside
first_of_both [] ms = refl
first_of_both (l ∷ ls) ms = go (outside l) (first_of_both ls ms)
  where
    go : (b : Bool) → first_figure_outside (ls ++ ms) ≡ option_or (first_figure_outside ls) (first_figure_outside ms) → cond b (Some l.figure) (first_figure_outside (ls ++ ms)) ≡ option_or (cond b (Some l.figure) (first_figure_outside ls)) (first_figure_outside ms)
    go true e = refl
    go false e = e

-- a figure that is not below 0, and the whole number that it is cast to
pub record Whole (z : ℤ) : Type 0 where
  pub fits : SFits w64 z
  pub from : pos 0 ≤ℤ z

pub cast_is : {z : ℤ} → Whole z → pos (nat_abs (to_z w64 (of_z w64 z))) ≡ z
cast_is {z = pos n} w = let f = w.fits in simp to_z-of_z
cast_is {z = negsuc n} w = absurd (omega (arith, ints, w.from))

pub casts : {z : ℤ} → Whole z → T (non_neg (to_z w64 (of_z w64 z))) × Fits w64 (nat_abs (to_z w64 (of_z w64 z)))
casts {z = pos n} w = let f = w.fits in simp to_z-of_z (tt, omega (arith, ints))
casts {z = negsuc n} w = absurd (omega (arith, ints, w.from))

-- a figure, and a small multiple of it, fit twice the width
pub wide : (z : ℤ) → SFits w64 z → SFits w128 z
wide z f = omega (arith, ints)

pub wide_times : (k : ℕ) → k ≤ 16 → (z : ℤ) → SFits w64 z → SFits w128 (pos k *ℤ z)
wide_times k h (pos n) f = record { sfits = omega (arith, f.sfits, mul-le-mul_right n h) }
wide_times k h (negsuc n) f = let a = mul-le-mul_right (suc n) h in omega (arith, ints)

-- the size of a ratio
pub sized : (z : ℤ) → negsuc 9999 ≤ℤ z → z ≤ℤ pos 10000 → size z ≤ 10000
sized (pos n) a b = omega (arith, ints)
sized (negsuc n) a b = omega (arith, ints)

-- a whole number that is cast to twice the width, and small multiples of it
pub natural_wide : (n : ℕ) → n < 2 ^ 64 → to_z w128 n ≡ pos n
natural_wide n h = omega (arith, ints)

pub multiples_fit : (n : ℕ) → n ≤ 4000 → SFits w128 (pos n) × SFits w128 (pos (5 * n)) × SFits w128 (pos (8 * n)) × SFits w128 (negsuc 2 *ℤ pos n)
multiples_fit n h = (omega (arith, ints), omega (arith, ints), omega (arith, ints), omega (arith, ints))

-- the sum of the shares
pub not_thousand : (s : ℤ) → (s ≡ pos 1000 → ⊥) → sum_fault s ≡ Some (SharesSum s)
not_thousand s h = go (lt_z s (pos 1000)) (lt_z (pos 1000) s) refl refl
  where
    go : (a b : Bool) → lt_z s (pos 1000) ≡ a → lt_z (pos 1000) s ≡ b → ◌≡◌ {A = Option Misfit} (cond (lt_z s (pos 1000) || lt_z (pos 1000) s) (Some (SharesSum s)) None) (Some (SharesSum s))
    go true b p q = rw p
    go false true p q = rw (p, q)
    go false false p q = absurd (h (omega (arith, ints)))

pub thousand : (s : ℤ) → s ≡ pos 1000 → sum_fault s ≡ None
thousand s e = rw e

-- as the code compares a sum with a thousand
pub bits_thousand : (s : ℤ) → SFits w64 s → pos 0 ≤ℤ s → of_z w64 s ≡ 1000 → s ≡ pos 1000
bits_thousand (pos n) f h e = omega (arith, ints)
bits_thousand (negsuc n) f h e = absurd (omega (arith, ints))

pub thousand_bits : (s : ℤ) → s ≡ pos 1000 → of_z w64 s ≡ 1000
thousand_bits s e = rw e

pub shares_make : (a b c : ℕ) (k y x : ℤ) → pos a ≡ k → pos b ≡ y → pos c ≡ x → (k +ℤ y) +ℤ x ≡ pos 1000 → a + b + c ≡ 1000
shares_make a b c k y x p q r e = omega (arith, ints)

-- bounds of a cast figure, and of a gap
pub natural_in : (a b n : ℕ) (z : ℤ) → pos n ≡ z → pos a ≤ℤ z → z ≤ℤ pos b → (a ≤ n) × (n ≤ b)
natural_in a b n z e p q = (omega (arith, ints), omega (arith, ints))

pub gap_in : (z : ℤ) (D : ℕ) → (negsuc 2 *ℤ pos D) ≤ℤ (pos 5 *ℤ z) → (pos 5 *ℤ z) ≤ℤ pos 20000 → (5 * lap z ≤ 3 * D) × (apart z ≤ 4000)
gap_in (pos n) D p q = (omega (arith, ints), omega (arith, ints))
gap_in (negsuc n) D p q = (omega (arith, ints), omega (arith, ints))
