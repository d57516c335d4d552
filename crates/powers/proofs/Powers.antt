-- Laws of the bounds of a power.
use Rattle.std.proofs.Common.{◌≡◌, ℕ, ◌*◌, ◌^◌, ◌<◌, ◌≤◌, sym, ap, mul-pos}
use Rattle.powers.specs.Fractions.{Fraction, den_positive, quotient, ◌≤ᶠ◌, ◌*ᶠ◌, ◌+ᶠ◌, ◌^ᶠ◌}
use Rattle.powers.specs.Powers.{NotAbovePower, NotBelowPower}
use Rattle.powers.proofs.Fractions.{same, le_trans, mul_mono, pow_mono, pow_root, swapᶠ, joinᶠ, partᶠ, addᶠ, sumᶠ, timesᶠ, untimesᶠ, pow_rise}

infixr 40 ◌⊙◌
◌⊙◌ : {f g h : Fraction} → f ≤ᶠ g → g ≤ᶠ h → f ≤ᶠ h
p ⊙ q = le_trans p q

at_same : (q : Fraction) {i j : ℕ} → i ≡ j → q ^ᶠ i ≤ᶠ q ^ᶠ j
at_same q e = same (ap (λ (k : ℕ). q.num ^ k) e) (ap (λ (k : ℕ). q.den ^ k) e)

pub above_below : (f g q e : Fraction) → NotAbovePower f q e → NotBelowPower g q e → f ≤ᶠ g
above_below f g q e a b = pow_root f g e.den (den_positive e) (a ⊙ b)

pub lower : (f g q e : Fraction) → f ≤ᶠ g → NotAbovePower g q e → NotAbovePower f q e
lower f g q e p a = pow_mono e.den p ⊙ a

pub raise : (f g q e : Fraction) → f ≤ᶠ g → NotBelowPower f q e → NotBelowPower g q e
raise f g q e p a = a ⊙ pow_mono e.den p

-- the base is at least 1: a greater exponent is a greater power
pub exponent_up : (f q e d : Fraction) → q.den ≤ q.num → e ≤ᶠ d → NotAbovePower f q e → NotAbovePower f q d
exponent_up f q e d one p a =
    pow_root (f ^ᶠ d.den) (q ^ᶠ d.num) e.den (den_positive e)
    (swapᶠ f d.den e.den ⊙ pow_mono d.den a ⊙ joinᶠ q e.num d.den ⊙ pow_rise q _ _ one p.across ⊙ partᶠ q d.num e.den)

pub exponent_down : (f q e d : Fraction) → q.den ≤ q.num → d ≤ᶠ e → NotBelowPower f q e → NotBelowPower f q d
exponent_down f q e d one p a =
    pow_root (q ^ᶠ d.num) (f ^ᶠ d.den) e.den (den_positive e)
    (joinᶠ q d.num e.den ⊙ pow_rise q _ _ one p.across ⊙ partᶠ q e.num d.den ⊙ pow_mono d.den a ⊙ swapᶠ f e.den d.den)

-- products: exponents add up
pub product_above : (a b q e d : Fraction) → NotAbovePower a q e → NotAbovePower b q d → NotAbovePower (a *ᶠ b) q (e +ᶠ d)
product_above a b q e d h k =
    timesᶠ a b (e.den * d.den)
    ⊙ mul_mono (partᶠ a e.den d.den ⊙ pow_mono d.den h ⊙ joinᶠ q e.num d.den)
    (partᶠ b e.den d.den ⊙ swapᶠ b e.den d.den ⊙ pow_mono e.den k ⊙ joinᶠ q d.num e.den)
    ⊙ addᶠ q (e.num * d.den) (d.num * e.den)

pub product_below : (a b q e d : Fraction) → NotBelowPower a q e → NotBelowPower b q d → NotBelowPower (a *ᶠ b) q (e +ᶠ d)
product_below a b q e d h k =
    sumᶠ q (e.num * d.den) (d.num * e.den)
    ⊙ mul_mono (partᶠ q e.num d.den ⊙ pow_mono d.den h ⊙ joinᶠ a e.den d.den)
    (partᶠ q d.num e.den ⊙ pow_mono e.den k ⊙ swapᶠ b d.den e.den ⊙ joinᶠ b e.den d.den)
    ⊙ untimesᶠ a b (e.den * d.den)

-- roots: f ^ k ≤ a and a ≤ q ^ e give f ≤ q ^ (e / k)
abbrev pub over : Fraction → (k : ℕ) → 0 < k → Fraction
over e k p = quotient e.num (k * e.den) (mul-pos p (den_positive e))

pub root_above : (f a q e : Fraction) (k : ℕ) (p : 0 < k) → f ^ᶠ k ≤ᶠ a → NotAbovePower a q e → NotAbovePower f q (over e k p)
root_above f a q e k p h n = partᶠ f k e.den ⊙ pow_mono e.den h ⊙ n

pub root_below : (f a q e : Fraction) (k : ℕ) (p : 0 < k) → a ≤ᶠ f ^ᶠ k → NotBelowPower a q e → NotBelowPower f q (over e k p)
root_below f a q e k p h n = n ⊙ pow_mono e.den h ⊙ joinᶠ f k e.den

-- m / n and m' / n' agree: any base
pub exponent_same : (f q e d : Fraction) → e.num * d.den ≡ d.num * e.den → NotAbovePower f q e → NotAbovePower f q d
exponent_same f q e d p a =
    pow_root (f ^ᶠ d.den) (q ^ᶠ d.num) e.den (den_positive e)
    (swapᶠ f d.den e.den ⊙ pow_mono d.den a ⊙ joinᶠ q e.num d.den ⊙ at_same q p ⊙ partᶠ q d.num e.den)

pub exponent_same_below : (f q e d : Fraction) → e.num * d.den ≡ d.num * e.den → NotBelowPower f q e → NotBelowPower f q d
exponent_same_below f q e d p a =
    pow_root (q ^ᶠ d.num) (f ^ᶠ d.den) e.den (den_positive e)
    (joinᶠ q d.num e.den ⊙ at_same q (sym p) ⊙ partᶠ q e.num d.den ⊙ pow_mono d.den a ⊙ swapᶠ f e.den d.den)
