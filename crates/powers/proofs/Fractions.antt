-- Laws of powers of numbers, and of the order of fractions.
use Rattle.std.proofs.Common.{◌≡◌, ℕ, zero, suc, ◌+◌, ◌*◌, ◌^◌, ◌<◌, ◌≤◌, sym, ap, ◌∙◌, ap₂, le_of_eq, mul-le-mul_right, mul_comm, mul-le-mul, lt_of_mul-lt-mul_right, mul-le-mul_left, mul-lt-mul_of_pos_right, mul-pos, pow-suc, lt_of_not-le, mul-zero, mul-suc, not-le_of_lt, le_of_mul-le-mul_right, arith, pow-add}
use native.Mathlib.Nat.{pow-zero, pow-le-pow_left, pow-lt-pow_left, le_dest}
use native.Mathlib.Decide.{dec_le}
use Rattle.std.proofs.lemmas.Nat.{mul-pow}
use Rattle.powers.specs.Fractions.{Fraction, den_positive, ◌≤ᶠ◌, ◌<ᶠ◌, ◌*ᶠ◌, ◌+ᶠ◌, ◌^ᶠ◌}

-- numbers
pub pow_mul : (a m n : ℕ) → a ^ (m * n) ≡ (a ^ m) ^ n
pow_mul a m zero = simp (mul-zero, pow-zero)
pow_mul a m (suc n) = simp (mul-suc, pow-add, pow-suc) (ap (λ (x : ℕ). x * a ^ m) (pow_mul a m n))

pub pow_swap : (a m n : ℕ) → (a ^ m) ^ n ≡ (a ^ n) ^ m
pow_swap a m n = sym (pow_mul a m n) ∙ ap (λ (k : ℕ). a ^ k) (mul_comm m n) ∙ pow_mul a n m

pub root_le : (a b n : ℕ) → 0 < n → a ^ n ≤ b ^ n → a ≤ b
root_le a b n p h = elim (dec_le a b) [ yes q ↦ q | no q ↦ absurd (not-le_of_lt (pow-lt-pow_left (lt_of_not-le q) (omega arith)) h) ]

pub zero_pow : (n : ℕ) → 0 < n → 0 ^ n ≡ 0
zero_pow zero h = omega arith
zero_pow (suc n) h = pow-suc 0 n ∙ mul-zero (0 ^ n)

-- the order of fractions
pub same : {f g : Fraction} → f.num ≡ g.num → f.den ≡ g.den → f ≤ᶠ g
same p q = record { across = le_of_eq (ap₂ ◌*◌ p (sym q)) }

pub le_refl : {f : Fraction} → f ≤ᶠ f
le_refl = record { across = omega arith }

pub le_trans : {f g h : Fraction} → f ≤ᶠ g → g ≤ᶠ h → f ≤ᶠ h
le_trans {f} {g} {h} p q =
    record { across = le_of_mul-le-mul_right {k = g.den} (omega (arith, mul-le-mul_right h.den p.across, mul-le-mul_right f.den q.across)) (den_positive g) }

pub lt_le_trans : {f g h : Fraction} → f <ᶠ g → g ≤ᶠ h → f <ᶠ h
lt_le_trans {f} {g} {h} p q =
    record { across = lt_of_mul-lt-mul_right g.den (omega (arith, mul-lt-mul_of_pos_right p.across (den_positive h), mul-le-mul_right f.den q.across)) }

pub mul_mono : {f g h k : Fraction} → f ≤ᶠ g → h ≤ᶠ k → f *ᶠ h ≤ᶠ g *ᶠ k
mul_mono p q = record { across = omega (arith, mul-le-mul p.across q.across) }

pub add_mono : {f g h k : Fraction} → f ≤ᶠ g → h ≤ᶠ k → f +ᶠ h ≤ᶠ g +ᶠ k
add_mono {f} {g} {h} {k} p q =
    record { across = omega (arith, mul-le-mul_right (h.den * k.den) p.across, mul-le-mul_right (f.den * g.den) q.across) }

-- a + c ≤ b + c gives a ≤ b
pub add_cancel : (f g h : Fraction) → f +ᶠ h ≤ᶠ g +ᶠ h → f ≤ᶠ g
add_cancel f g h p =
    record { across = le_of_mul-le-mul_right {k = h.den * h.den} (omega (arith, p.across)) (mul-pos (den_positive h) (den_positive h)) }

pub pow_mono : {f g : Fraction} (n : ℕ) → f ≤ᶠ g → f ^ᶠ n ≤ᶠ g ^ᶠ n
pow_mono n p = record { across = simp (← mul-pow) (pow-le-pow_left p.across n) }

pub pow_root : (f g : Fraction) (n : ℕ) → 0 < n → f ^ᶠ n ≤ᶠ g ^ᶠ n → f ≤ᶠ g
pow_root f g n p h = record { across = root_le _ _ n p (simp (← mul-pow) at h.across) }

pub swapᶠ : (f : Fraction) (m n : ℕ) → (f ^ᶠ m) ^ᶠ n ≤ᶠ (f ^ᶠ n) ^ᶠ m
swapᶠ f m n = same (pow_swap f.num m n) (pow_swap f.den m n)

pub joinᶠ : (f : Fraction) (m n : ℕ) → (f ^ᶠ m) ^ᶠ n ≤ᶠ f ^ᶠ (m * n)
joinᶠ f m n = same (sym (pow_mul f.num m n)) (sym (pow_mul f.den m n))

pub partᶠ : (f : Fraction) (m n : ℕ) → f ^ᶠ (m * n) ≤ᶠ (f ^ᶠ m) ^ᶠ n
partᶠ f m n = same (pow_mul f.num m n) (pow_mul f.den m n)

pub addᶠ : (f : Fraction) (m n : ℕ) → (f ^ᶠ m) *ᶠ (f ^ᶠ n) ≤ᶠ f ^ᶠ (m + n)
addᶠ f m n = same (sym (pow-add f.num m n)) (sym (pow-add f.den m n))

pub sumᶠ : (f : Fraction) (m n : ℕ) → f ^ᶠ (m + n) ≤ᶠ (f ^ᶠ m) *ᶠ (f ^ᶠ n)
sumᶠ f m n = same (pow-add f.num m n) (pow-add f.den m n)

pub timesᶠ : (f g : Fraction) (n : ℕ) → (f *ᶠ g) ^ᶠ n ≤ᶠ (f ^ᶠ n) *ᶠ (g ^ᶠ n)
timesᶠ f g n = same (mul-pow f.num g.num n) (mul-pow f.den g.den n)

pub untimesᶠ : (f g : Fraction) (n : ℕ) → (f ^ᶠ n) *ᶠ (g ^ᶠ n) ≤ᶠ (f *ᶠ g) ^ᶠ n
untimesᶠ f g n = same (sym (mul-pow f.num g.num n)) (sym (mul-pow f.den g.den n))

-- a fraction that is at least 1 has greater powers at greater exponents
pub pow_rise : (q : Fraction) (i j : ℕ) → q.den ≤ q.num → i ≤ j → q ^ᶠ i ≤ᶠ q ^ᶠ j
pow_rise q i j h p = go (le_dest p)
  where
    go : ((k : ℕ) × (i + k ≡ j)) → q ^ᶠ i ≤ᶠ q ^ᶠ j
    go (k, e) = record { across = rw (← e, pow-add q.num i k, pow-add q.den i k) (omega (arith, mul-le-mul_left (q.num ^ i * q.den ^ i) (pow-le-pow_left h k))) }
