-- Ends of roots and powers.
use Rattle.std.proofs.Common.{◌≡◌, ℕ, ◌+◌, ◌-◌, ◌*◌, ◌/◌, ◌^◌, ◌<◌, ◌≤◌, T, ltb, ap, mul-le-mul_right, le_of_mul-le-mul_right, arith, lit<, ltb→lt}
use Rattle.powers.specs.declared.ends.Ends.{Ends}
use Rattle.powers.specs.declared.quotient.Quotient.{Quotient}
use Rattle.powers.specs.declared.up_to_one.UpToOne.{UpToOne}
use Rattle.powers.specs.Fractions.{Fraction, quotient, number, ◌*ᶠ◌, ◌+ᶠ◌}
use Rattle.powers.specs.Formulas.{constant, power, ◌⊗◌}
use Rattle.powers.specs.Enclosures.{units, Near, Is, Exact}
use Rattle.powers.specs.Enclosures.{UpToOne as IsUpToOne}
use Rattle.powers.proofs.Fractions.{le_trans, pow_mono}
use Rattle.powers.proofs.Powers.{lower, raise, product_above, product_below, exponent_same, exponent_same_below}
use Rattle.powers.proofs.Enclosures.{Encloses, root_encloses, pow_one, pow_two}
use Rattle.powers.proofs.Nears.{near_of, encloses}

abbrev pub as_fraction : Quotient → Fraction
as_fraction r = quotient r.num r.den r.whole

-- the same base, written otherwise
pub rebase : (z : Ends) (p q e : Fraction) → p.num * q.den ≡ q.num * p.den → Encloses z (power p e) → Encloses z (power q e)
rebase z p q e s h = record {
  low = le_trans h.low (pow_mono e.num (record { across = omega arith }));
  high = le_trans (pow_mono e.num (record { across = omega arith })) h.high;
}

-- the same exponent, written otherwise
pub re_exponent : (z : Ends) (q e d : Fraction) → e.num * d.den ≡ d.num * e.den → Encloses z (power q e) → Encloses z (power q d)
re_exponent z q e d p h = record {
  low = exponent_same (units z.low) q e d p h.low;
  high = exponent_same_below (units z.high) q e d p h.high;
}

join_powers : (z : Ends) (q e d : Fraction) → Encloses z (power q e ⊗ power q d) → Encloses z (power q (e +ᶠ d))
join_powers z q e d h = record {
  low = let (a, b, ha, hb, p) = h.low in lower (units z.low) (a *ᶠ b) q (e +ᶠ d) p (product_above a b q e d ha hb);
  high = let (a, b, ha, hb, p) = h.high in raise (a *ᶠ b) (units z.high) q (e +ᶠ d) p (product_below a b q e d ha hb);
}

-- a number is its first power
pub as_power : {z : Ends} {q : Fraction} {a b n : ℕ} → Near z (constant q) a b n → Near z (power q (number 1 1)) a b n
as_power h = record {
  low = record { across = simp pow_one h.low.across };
  high = record { across = simp pow_one h.high.across };
  least = h.least;
  most = h.most;
  tight = h.tight;
}

-- powers of one base multiply, and their exponents add up to g
pub join : {z : Ends} {q e d : Fraction} {a b n : ℕ} (g : Fraction) → (e +ᶠ d).num * g.den ≡ g.num * (e +ᶠ d).den → Near z (power q e ⊗ power q d) a b n → Near z (power q g) a b n
join {z} {q} {e} {d} g same h =
    let k = re_exponent z q (e +ᶠ d) g same (join_powers z q e d (encloses h)) in
    record { low = k.low; high = k.high; least = h.least; most = h.most; tight = h.tight }

is_base : (q : Fraction) (r : Quotient) → Is q r → (as_fraction r).num * q.den ≡ q.num * (as_fraction r).den
is_base q r h = omega arith

-- a bound of a quotient holds of the fraction, however that is written
module _ (k l : ℕ) (q : Fraction) (r : Quotient) (same : Is q r) where
  pub bound_is : k * r.den ≤ l * r.num → k * q.den ≤ l * q.num
  bound_is h = le_of_mul-le-mul_right {k = r.den} (omega (arith, mul-le-mul_right q.den h, ap (λ (x : ℕ). l * x) same)) r.whole

  pub bound_is_above : k * r.num ≤ l * r.den → k * q.num ≤ l * q.den
  bound_is_above h = le_of_mul-le-mul_right {k = r.den} (omega (arith, mul-le-mul_right q.den h, ap (λ (x : ℕ). k * x) same)) r.whole

pub square_near : (r : Quotient) (z : Ends) (x : ℕ) → z.low ≡ x → z.high ≡ x + 1 → x * x ≤ r.num * 2 ^ 80 / r.den → r.num * 2 ^ 80 / r.den < (x + 1) * (x + 1)
    → (q : Fraction) (a b : ℕ) → Is q r → a * a * q.den ≤ q.num * 2 ^ 80 → q.num * 2 ^ 80 ≤ b * b * q.den → T (ltb 1 a)
    → Near z (power q (number 1 2)) (a - 1) (b + 1) (1 * 2 ^ 40 / (a - 1) + 1)
square_near r z x l h p o q a b s u v t =
    near_of z (power q (number 1 2)) a b 1
    (rebase z (as_fraction r) q (number 1 2) (is_base q r s) (root_encloses (as_fraction r) 2 40 (lit< tt) z x (omega arith) (omega arith) (omega arith) (rw (pow_two x) p) (rw (pow_two (x + 1)) o)))
    (omega arith)
    (record { across = simp (pow_one, pow_two) (omega arith) }) (record { across = simp (pow_one, pow_two) (omega arith) }) (ltb→lt 1 a t)

-- what the type says of its quotient
pub in_range : (x : UpToOne) → IsUpToOne x.quotient
in_range x = record { most = x.most; least = x.least; short = x.short }

pub fifth_near : (r : Quotient) (z : Ends) (x : ℕ) → z.low ≡ x * 131072 → z.high ≡ (x + 1) * 131072 → x ^ 5 ≤ r.num * 2 ^ 115 / r.den → r.num * 2 ^ 115 / r.den < (x + 1) ^ 5
    → (q : Fraction) → Is q r → IsUpToOne r → Near z (power q (number 1 5)) 796046287437 1099511758848 181039
fifth_near r z x l h p o q s up =
    let u = bound_is_above 1 1 q r s (omega (arith, up.most)) in
    let v = bound_is 1 5 q r s (omega (arith, up.least)) in
    near_of z (power q (number 1 5)) 796046418509 (2 ^ 40) 131072
    (rebase z (as_fraction r) q (number 1 5) (is_base q r s) (root_encloses (as_fraction r) 5 23 (lit< tt) z x (omega arith) l h p o))
    (omega arith)
    (record { across = simp pow_one (omega arith) }) (record { across = simp pow_one (omega arith) }) (lit< tt)

-- a quotient up to 1 as its own first power
pub first_power : (r : Quotient) (z : Ends) (q : Fraction) → Exact r z → Is q r → IsUpToOne r → Near z (power q (number 1 1)) 219902325554 1099511627777 6
first_power r z q e same up =
    let lo = bound_is 1 5 q r same (omega (arith, up.least)) in
    let hi = bound_is_above 1 1 q r same (omega (arith, up.most)) in
    as_power (e.near q 219902325555 1099511627776 same (omega arith) (omega arith) tt tt)
