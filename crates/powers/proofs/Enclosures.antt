-- Ends that follow from those of the parts of a formula.
use Rattle.std.proofs.Common.{◌≡◌, ℕ, ◌+◌, ◌-◌, ◌*◌, ◌/◌, ◌^◌, ◌<◌, ◌≤◌, ◌⊎◌, sym, ap, ◌∙◌, inl, inr, le_of_lt, div-lt_iff_lt-mul, one-mul, pow-suc, le-div_iff_mul-le, arith, pow_pos, pow-add}
use native.Mathlib.Nat.{pow-zero}
use Rattle.powers.specs.declared.ends.Ends.{Ends}
use Rattle.powers.specs.Fractions.{Fraction, den_positive, quotient}
use Rattle.powers.specs.Powers.{NotAbovePower, NotBelowPower}
use Rattle.powers.specs.Formulas.{Formula, power, ◌⊕◌, ◌⊖◌, ◌⊗◌, ◌at_least◌, NotAbove, NotBelow}
use Rattle.powers.specs.Enclosures.{units}
use Rattle.powers.proofs.Fractions.{pow_mul}
use Rattle.powers.proofs.Formulas.{less, more}
use Rattle.powers.proofs.Powers.{lower, raise}

pub record Encloses (x : Ends) (φ : Formula) : Type 0 where
  pub low : NotAbove φ (units x.low)
  pub high : NotBelow φ (units x.high)

module _ (x y z : Ends) where
  pub add_encloses : z.low ≤ x.low + y.low → x.high + y.high ≤ z.high → (φ ψ : Formula) → Encloses x φ → Encloses y ψ → Encloses z (φ ⊕ ψ)
  add_encloses p q φ ψ hx hy = record {
    low = (units x.low, units y.low, hx.low, hy.low, record { across = omega arith });
    high = (units x.high, units y.high, hx.high, hy.high, record { across = omega arith });
  }

  pub mul_encloses : z.low * 2 ^ 40 ≤ x.low * y.low → x.high * y.high ≤ z.high * 2 ^ 40 → (φ ψ : Formula) → Encloses x φ → Encloses y ψ → Encloses z (φ ⊗ ψ)
  mul_encloses p q φ ψ hx hy = record {
    low = (units x.low, units y.low, hx.low, hy.low, record { across = omega arith });
    high = (units x.high, units y.high, hx.high, hy.high, record { across = omega arith });
  }

  pub sub_encloses : z.low + y.high ≤ x.low → x.high ≤ z.high + y.low → (φ ψ : Formula) → Encloses x φ → Encloses y ψ → Encloses z (φ ⊖ ψ)
  sub_encloses p q φ ψ hx hy = record {
    low = (units x.low, units y.high, hx.low, hy.high, record { across = omega arith });
    high = (units x.high, units y.low, hx.high, hy.low, record { across = omega arith });
  }

  pub greater_encloses : (z.low ≡ x.low) ⊎ (z.low ≡ y.low) → x.high ≤ z.high → y.high ≤ z.high → (φ ψ : Formula) → Encloses x φ → Encloses y ψ → Encloses z (φ at_least ψ)
  greater_encloses l p q φ ψ hx hy = record {
    low = elim l [ inl e ↦ inl (less φ (units z.low) (units x.low) (record { across = omega arith }) hx.low) | inr e ↦ inr (less ψ (units z.low) (units y.low) (record { across = omega arith }) hy.low) ];
    high = (more φ (units x.high) (units z.high) (record { across = omega arith }) hx.high, more ψ (units y.high) (units z.high) (record { across = omega arith }) hy.high);
  }

pub pow_one : (a : ℕ) → a ^ 1 ≡ a
pow_one a = pow-suc a 0 ∙ ap (λ (x : ℕ). x * a) (pow-zero a) ∙ one-mul a

pub pow_two : (a : ℕ) → a ^ 2 ≡ a * a
pow_two a = pow-suc a 1 ∙ ap (λ (x : ℕ). x * a) (pow_one a)

-- x / 2 ^ s
abbrev scaled : ℕ → ℕ → Fraction
scaled x s = quotient x (2 ^ s) (pow_pos s)

-- the n-th root of q to a resolution of 2^-s
module _ (q : Fraction) (n s : ℕ) (w : 0 < n) where
  abbrev one_nth : Fraction
  one_nth = quotient 1 n w

  at_root : (x : ℕ) → x ^ n ≤ q.num * 2 ^ (s * n) / q.den → NotAbovePower (scaled x s) q one_nth
  at_root x h = record { across = simp (pow_one, ← pow_mul 2 s n) ((le-div_iff_mul-le (den_positive q)).0 h) }

  past_root : (x : ℕ) → q.num * 2 ^ (s * n) / q.den < x ^ n → NotBelowPower (scaled x s) q one_nth
  past_root x h = record { across = simp (pow_one, ← pow_mul 2 s n) (le_of_lt ((div-lt_iff_lt-mul (den_positive q)).0 h)) }

  step_is : s ≤ 40 → 2 ^ s * 2 ^ (40 - s) ≡ 2 ^ 40
  step_is h =
      let e : s + (40 - s) ≡ 40 = omega arith in
      sym (pow-add 2 s (40 - s)) ∙ ap (λ (k : ℕ). 2 ^ k) e

  pub root_encloses : (z : Ends) (x : ℕ) → s ≤ 40 → z.low ≡ x * 2 ^ (40 - s) → z.high ≡ (x + 1) * 2 ^ (40 - s) → x ^ n ≤ q.num * 2 ^ (s * n) / q.den → q.num * 2 ^ (s * n) / q.den < (x + 1) ^ n → Encloses z (power q one_nth)
  root_encloses z x small low high a b = record {
    low = lower (units z.low) (scaled x s) q one_nth (record { across = rw low (omega (arith, ap (λ (k : ℕ). x * k) (step_is small))) }) (at_root x a);
    high = raise (scaled (x + 1) s) (units z.high) q one_nth (record { across = rw high (omega (arith, ap (λ (k : ℕ). (x + 1) * k) (step_is small))) }) (past_root (x + 1) b);
  }
