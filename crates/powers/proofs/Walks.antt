-- One more binary digit of an exponent.
use Rattle.std.proofs.Common.{◌≡◌, ℕ, suc, ◌+◌, ◌-◌, ◌*◌, ◌/◌, ◌^◌, ◌<◌, ◌≤◌, sym, ap, subst, inl, inr, mul-le-mul_right, mul-le-mul, lt_of_mul-lt-mul_right, lt_of_not-le, not-le_of_lt, le_of_mul-le-mul_right, arith, lit<, pow_pos, pow-add}
use native.Mathlib.Nat.{pow-zero, le_dest, lt-div-mul-add}
use native.Mathlib.Decide.{dec_le}
use Rattle.std.proofs.lemmas.Bool.{cases_lt}
use Rattle.std.proofs.lemmas.Nat.{le-div, div_below}
use Rattle.powers.specs.declared.ends.Ends.{Ends}
use Rattle.powers.specs.declared.quotient.Quotient.{Quotient}
use Rattle.powers.specs.declared.walked.Walked.{Walked}
use Rattle.powers.specs.Fractions.{Fraction, number}
use Rattle.powers.specs.Powers.{NotAbovePower, NotBelowPower}
use Rattle.powers.specs.Formulas.{constant, power, ◌⊗◌}
use Rattle.powers.specs.Enclosures.{units, held, Near, Is, Exact, Product}
use Rattle.powers.specs.Digits.{binary, Halved, Reached}
use Rattle.powers.proofs.Powers.{over, root_above, root_below, exponent_up, exponent_down, above_below}
use Rattle.powers.proofs.Enclosures.{Encloses, pow_one, pow_two}
use Rattle.powers.proofs.Nears.{encloses}
use Rattle.powers.proofs.RootLaws.{re_exponent, join}

pub square_lt : (a b : ℕ) → a * a < b * b → a < b
square_lt a b h = elim (dec_le b a) [ yes p ↦ absurd (not-le_of_lt h (mul-le-mul p p)) | no p ↦ lt_of_not-le p ]

pub double : (j : ℕ) → 2 ^ (j + 1) ≡ 2 ^ j * 2
double j = pow-add 2 j 1

-- the root of what is at least 1 is at least 1
root_one : (x l : ℕ) → 2 ^ 40 ≤ x → x * 2 ^ 40 < (l + 1) * (l + 1) → 2 ^ 40 ≤ l
root_one x l h p =
    let s : 2 ^ 40 * 2 ^ 40 < (l + 1) * (l + 1) = omega arith in
    omega (arith, square_lt (2 ^ 40) (l + 1) s)

-- the root of 1 + x is at most 1 + x / 2
root_nearer : (y s : ℕ) → s * s ≤ y * 2 ^ 40 → 2 * s ≤ y + 2 ^ 40
root_nearer y s p = elim (cases_lt s (2 ^ 40)) [ inl k ↦ below (le_dest k) | inr k ↦ above (le_dest k) ]
  where
    above : ((d : ℕ) × (2 ^ 40 + d ≡ s)) → 2 * s ≤ y + 2 ^ 40
    above (d, e) = let r : (2 ^ 40 + d) * (2 ^ 40 + d) ≤ y * 2 ^ 40 = rw e p in omega arith

    below : ((d : ℕ) × (suc s + d ≡ 2 ^ 40)) → 2 * s ≤ y + 2 ^ 40
    below (d, e) =
        let f : s * (suc s + d) ≡ s * 2 ^ 40 = ap (λ (t : ℕ). s * t) e in
        let g : (d + 1) * (suc s + d) ≡ (d + 1) * 2 ^ 40 = ap (λ (t : ℕ). (d + 1) * t) e in
        omega arith

-- what is at most 63 / 2^j above 1 is at most 64
at_most_64 : (l p : ℕ) → 0 < p → l * p ≤ 2 ^ 40 * p + 63 * 2 ^ 40 → l ≤ 64 * 2 ^ 40
at_most_64 l p n h = le_of_mul-le-mul_right {k = p} (omega arith) n

module _ (x z : Ends) (q : Fraction) (j : ℕ) (r : Near x (power q (binary 1 j)) (2 ^ 40) (65 * 2 ^ 40) 2) (close : x.high ≤ x.low + 2) (h : Halved x z) where
  one : 2 ^ 40 ≤ z.low
  one = root_one x.low z.low r.least h.next

  pub root_encloses : Encloses z (power q (binary 1 (j + 1)))
  root_encloses =
      re_exponent z q (over (binary 1 j) 2 (lit< tt)) (binary 1 (j + 1)) (rw (double j) (omega arith)) (record {
        low = root_above (units z.low) (units x.low) q (binary 1 j) 2 (lit< tt) (record { across = rw (pow_two z.low) (omega (arith, h.low)) }) r.low;
        high = root_below (units z.high) (units x.high) q (binary 1 j) 2 (lit< tt) (record { across = rw (pow_two z.high, h.high) (omega (arith, h.next, one)) }) r.high;
      })

  pub next_nearer : x.low * 2 ^ j ≤ 2 ^ 40 * 2 ^ j + 63 * 2 ^ 40 → z.low * 2 ^ (j + 1) ≤ 2 ^ 40 * 2 ^ (j + 1) + 63 * 2 ^ 40
  next_nearer n = rw (double j) (omega (arith, mul-le-mul_right (2 ^ j) (root_nearer x.low z.low h.low)))

  pub next_root : x.low * 2 ^ j ≤ 2 ^ 40 * 2 ^ j + 63 * 2 ^ 40 → Near z (power q (binary 1 (j + 1))) (2 ^ 40) (65 * 2 ^ 40) 2
  next_root n =
      let e = root_encloses in
      let m = at_most_64 z.low (2 ^ (j + 1)) (pow_pos (j + 1)) (next_nearer n) in
      record { low = e.low; high = e.high; least = one; most = omega (arith, h.high); tight = omega (arith, h.high, one) }

-- a power with an exponent up to 1 of a base from 1 to 64 is at most 64
module _ (q e : Fraction) (from : q.den ≤ q.num) (to : q.num ≤ 64 * q.den) (up : e.num ≤ e.den) where
  pub not_below_64 : NotBelowPower (units (64 * 2 ^ 40)) q e
  not_below_64 = exponent_down (units (64 * 2 ^ 40)) q (number 1 1) e from (record { across = omega arith }) (record { across = simp pow_one (omega arith) })

  pub low_at_most : (l : ℕ) → NotAbovePower (units l) q e → l ≤ 64 * 2 ^ 40
  low_at_most l h = le_of_mul-le-mul_right {k = 2 ^ 40} (above_below (units l) (units (64 * 2 ^ 40)) q e h not_below_64).across (lit< tt)

-- a product stays below 65
capped : (l h n : ℕ) → l ≤ 64 * 2 ^ 40 → n ≤ 300 → h * 2 ^ 40 ≤ l * (2 ^ 40 + n) → h ≤ 65 * 2 ^ 40
capped l h n a b t = omega (arith, t, mul-le-mul a b)

module _ (z : Ends) (q : Fraction) (k j : ℕ) (few : j < 32) where
  pub next_zero : Near z (power q (binary k j)) (2 ^ 40) (65 * 2 ^ 40) (7 * j) → Near z (power q (binary (2 * k + 0) (j + 1))) (2 ^ 40) (65 * 2 ^ 40) (7 * (j + 1))
  next_zero h =
      let e = re_exponent z q (binary k j) (binary (2 * k + 0) (j + 1)) (rw (double j) (omega arith)) (encloses h) in
      record { low = e.low; high = e.high; least = h.least; most = h.most; tight = omega (arith, h.tight) }

  pub next_one : q.den ≤ q.num → q.num ≤ 64 * q.den → k < 2 ^ j → (b : ℕ) → Near z (power q (binary k j) ⊗ power q (binary 1 (j + 1))) (2 ^ 40) b (7 * j + 2 + 2 + 3)
      → Near z (power q (binary (2 * k + 1) (j + 1))) (2 ^ 40) (65 * 2 ^ 40) (7 * (j + 1))
  next_one from to small b h =
      let g : Near z (power q (binary (2 * k + 1) (j + 1))) (2 ^ 40) b (7 * j + 2 + 2 + 3) = join (binary (2 * k + 1) (j + 1)) (rw (double j) (omega arith)) h in
      let up : 2 * k + 1 ≤ 2 ^ (j + 1) = rw (double j) (omega arith) in
      let l = low_at_most q (binary (2 * k + 1) (j + 1)) from to up z.low g.low in
      record {
        low = g.low;
        high = g.high;
        least = g.least;
        tight = omega (arith, g.tight);
        most = capped z.low z.high (7 * j + 2 + 2 + 3) l (omega arith) g.tight;
      }

-- bounds of the base, however it is written
module _ (q : Fraction) (base : Quotient) (same : Is q base) where
  pub from_one : base.den ≤ base.num → q.den ≤ q.num
  from_one h = le_of_mul-le-mul_right {k = base.den} (omega (arith, mul-le-mul_right q.den h)) base.whole

  pub up_to_64 : base.num ≤ 64 * base.den → q.num ≤ 64 * q.den
  up_to_64 h = le_of_mul-le-mul_right {k = base.den} (omega (arith, mul-le-mul_right q.den h)) base.whole

-- no digits yet
pub begin : (base : Quotient) (x o : Ends) (q : Fraction) → o.low ≡ 2 ^ 40 → o.high ≡ 2 ^ 40 → Is q base → base.den ≤ base.num → base.num ≤ 64 * base.den → Exact base x
    → Reached (record { root = x; product = o }) q 0 0
begin base x o q ol oh same from to e = record {
  root = record { low = record { across = simp pow_one c.low.across }; high = record { across = simp pow_one c.high.across }; least = least; most = omega (arith, close, most); tight = omega (arith, close, least) };
  close = omega (arith, close);
  nearer = omega (arith, most);
  product = record { low = record { across = rw ol (simp (pow-zero, pow_one) (omega arith)) }; high = record { across = rw oh (simp (pow-zero, pow_one) (omega arith)) }; least = omega arith; most = omega arith; tight = omega arith };
}
  where
    w : 0 < base.den
    w = base.whole

    f : q.den ≤ q.num
    f = from_one q base same from

    t : q.num ≤ 64 * q.den
    t = up_to_64 q base same to

    c : Near x (constant q) (2 ^ 40 - 1) (64 * 2 ^ 40 + 1) 2
    c = e.near q (2 ^ 40) (64 * 2 ^ 40) same (omega (arith, mul-le-mul_right (2 ^ 40) f)) (omega (arith, mul-le-mul_right (2 ^ 40) t)) tt tt

    low_is : x.low ≡ base.num * 2 ^ 40 / base.den
    low_is = omega (arith, e.low, div_below (base.num * 2 ^ 40) base.den (65 * 2 ^ 40) w (omega arith))

    least : 2 ^ 40 ≤ x.low
    least = rw low_is (le-div (2 ^ 40) (base.num * 2 ^ 40) base.den w (omega arith))

    above : (base.num * 2 ^ 40 + (base.den - 1)) / base.den < base.num * 2 ^ 40 / base.den + 2
    above = div_below (base.num * 2 ^ 40 + (base.den - 1)) base.den (base.num * 2 ^ 40 / base.den + 2) w (omega (arith, lt-div-mul-add {a = base.num * 2 ^ 40} w))

    close : x.high ≤ x.low + 1
    close = omega (arith, e.high, low_is, above)

    most : x.low ≤ 64 * 2 ^ 40
    most = omega (arith, low_is, div_below (base.num * 2 ^ 40) base.den (64 * 2 ^ 40 + 1) w (omega arith))

-- the digits taken so far and what is left of the exponent m / n
pub few_digits : (m n k j r : ℕ) → m < n → m * 2 ^ j ≡ k * n + r → k < 2 ^ j
few_digits m n k j r h e = lt_of_mul-lt-mul_right n (omega (arith, pow_pos j, mul-le-mul_right (2 ^ j) h))

-- after all the digits, k / 2^32 ≤ m / n ≤ (k + 1) / 2^32, where e / d is m / n
before : (m n k r e d : ℕ) → 0 < n → e * n ≡ m * d → m * 2 ^ 32 ≡ k * n + r → k * d ≤ e * 2 ^ 32
before m n k r e d p same digits = le_of_mul-le-mul_right {k = n} (omega (arith, ap (λ (x : ℕ). x * d) digits)) p

behind : (m n k r e d : ℕ) → 0 < n → e * n ≡ m * d → m * 2 ^ 32 ≡ k * n + r → r < n → e * 2 ^ 32 ≤ (k + 1) * d
behind m n k r e d p same digits rest = le_of_mul-le-mul_right {k = n} (omega (arith, ap (λ (x : ℕ). x * d) digits, mul-le-mul_right d rest)) p

below_one : (m n e d : ℕ) → 0 < n → e * n ≡ m * d → m < n → e ≤ d
below_one m n e d p same h = le_of_mul-le-mul_right {k = n} (omega (arith, mul-le-mul_right d h)) p

one_more : (k p : ℕ) → (k * p + 1 * p) * p ≡ (k + 1) * (p * p)
one_more k p = omega arith

end_width : (a A b H : ℕ) → b ≤ 2 ^ 40 + 16130 → 2 ^ 40 ≤ A → a * 2 ^ 40 ≤ A * (2 ^ 40 + 224) → H * 2 ^ 40 ≤ a * b + 2 ^ 40 → H * 2 ^ 40 ≤ A * (2 ^ 40 + 20000)
end_width a A b H near one wide high =
    let m : (a * 2 ^ 40) * b ≤ (A * (2 ^ 40 + 224)) * (2 ^ 40 + 16130) = mul-le-mul wide near in
    omega arith

most_of : (l h : ℕ) → h * 2 ^ 40 ≤ l * (2 ^ 40 + 20000) → l ≤ 64 * 2 ^ 40 → h ≤ 65 * 2 ^ 40
most_of l h a b = omega arith

-- the last root is at most 16,128 units above 1
last_root : (l h : ℕ) → h ≤ l + 2 → l * 2 ^ 32 ≤ 2 ^ 40 * 2 ^ 32 + 63 * 2 ^ 40 → h ≤ 2 ^ 40 + 16130
last_root l h p q = omega arith

raised : (x y h : ℕ) → h ≡ held ((x * y + (2 ^ 40 - 1)) / 2 ^ 40) → h * 2 ^ 40 ≤ x * y + 2 ^ 40
raised x y h e = omega arith

module _ (q : Fraction) (n : Quotient) (e : Fraction) (s : Walked) (above : Ends) (k r : ℕ) (same : Is e n) (from : q.den ≤ q.num) (to : q.num ≤ 64 * q.den)
    (small : n.num < n.den) (digits : n.num * 2 ^ 32 ≡ k * n.den + r) (rest : r < n.den) (h : Reached s q k 32) (p : Product s.product s.root above) where
  low : NotAbovePower (units s.product.low) q e
  low = exponent_up (units s.product.low) q (binary k 32) e from (record { across = before n.num n.den k r e.num e.den n.whole same digits }) h.product.low

  joined : Near above (power q (binary (k + 1) 32)) (2 ^ 40) (4225 * 2 ^ 40 + 1) (7 * 32 + 2 + 2 + 3)
  joined = join (binary (k + 1) 32) (one_more k (2 ^ 32)) (p.near h.product h.root (tt, tt, tt, tt))

  high : NotBelowPower (units above.high) q e
  high = exponent_down (units above.high) q (binary (k + 1) 32) e from (record { across = behind n.num n.den k r e.num e.den n.whole same digits rest }) joined.high

  product_low : s.product.low ≤ 64 * 2 ^ 40
  product_low = low_at_most q e from to (below_one n.num n.den e.num e.den n.whole same small) s.product.low low

  width : above.high * 2 ^ 40 ≤ s.product.low * (2 ^ 40 + 20000)
  width =
      end_width s.product.high s.product.low s.root.high above.high (last_root s.root.low s.root.high h.close h.nearer) h.product.least h.product.tight
      (raised s.product.high s.root.high above.high p.high)

  pub ordered : s.product.low ≤ above.high
  ordered = le_of_mul-le-mul_right {k = 2 ^ 40} (above_below (units s.product.low) (units above.high) q e low high).across (lit< tt)

  pub finish : (z : Ends) → z.low ≡ s.product.low → z.high ≡ above.high → Near z (power q e) (2 ^ 40) (65 * 2 ^ 40) 20000
  finish z zl zh = record {
    low = subst (λ (x : ℕ). NotAbovePower (units x) q e) (sym zl) low;
    high = subst (λ (x : ℕ). NotBelowPower (units x) q e) (sym zh) high;
    least = rw zl h.product.least;
    most = rw zh (most_of s.product.low above.high width product_low);
    tight = rw (zl, zh) width;
  }
