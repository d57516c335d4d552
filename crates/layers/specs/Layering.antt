-- Layers over any edition: their laws, what they tell, and the multiplier of a can.
-- Here and not in proofs/, since an impl's law has to cite them; a reader of the promises needs none of it. Assumes nothing.
use Rattle.std.specs.Prelude.{◌≡◌, ℕ, ◌+◌, ◌-◌, ◌*◌, ◌/◌, ◌<◌, ◌≤◌, min, refl, Some, None}
use Rattle.std.proofs.Common.{ap, mul-le-mul_right, mul-le-mul_left, mul-pos, le_of_mul-le-mul_right, lt_of_mul-lt-mul_right, div-mul-le_self, arith}
use Rattle.std.proofs.lemmas.Bool.{cond_both, leb-true, leb-false}
use Rattle.powers.specs.declared.quotient.Quotient.{Quotient}
use Rattle.powers.specs.Fractions.{Fraction, Positive, den_positive, num_positive, number, positive_of, ◌≤ᶠ◌, ◌÷⁺◌, ◌at_most◌}
use Rattle.powers.specs.Enclosures.{Is}
use Rattle.records.specs.declared.kind.Kind.{Kind}
use Rattle.records.specs.declared.ratios.Ratios.{Ratios}
use Rattle.records.specs.declared.record.BraceRecord.{BraceRecord}
use Rattle.editions.specs.declared.strength.Strength.{Strength}
use Rattle.editions.specs.Meanings.{Meaning, Lawful, Tells, millionths}
use Rattle.layers.specs.Layers.{scaled, Scaled}

-- division by a positive fraction keeps the order, both ways
over_mono : (f g s : Positive) → f.value ≤ᶠ g.value → (f ÷⁺ s).value ≤ᶠ (g ÷⁺ s).value
over_mono f g s h = record { across = omega (arith, mul-le-mul_right (s.value.den * s.value.num) h.across) }

over_cancel : (f g s : Positive) → (f ÷⁺ s).value ≤ᶠ (g ÷⁺ s).value → f.value ≤ᶠ g.value
over_cancel f g s h = record { across = le_of_mul-le-mul_right {k = s.value.den * s.value.num} (omega (arith, h.across)) (mul-pos (den_positive s.value) (num_positive s)) }

pub scaled_lawful : (s : BraceRecord → Kind → Positive) (n : ℕ) (m : Meaning) → Lawful m → Lawful (scaled s n m)
scaled_lawful s n m w = record {
  between = λ b q k f g p r. over_cancel f g (s b k) (w.between b q k (f ÷⁺ s b k) (g ÷⁺ s b k) p r);
  down = λ b q k f g h p. w.down b q k (f ÷⁺ s b k) (g ÷⁺ s b k) (over_mono f g (s b k) h) p;
  up = λ b q k f g h p. w.up b q k (f ÷⁺ s b k) (g ÷⁺ s b k) (over_mono f g (s b k) h) p;
}

near_of : (D N l a d e w : ℕ) → N ≤ D → l * N < a * D + D → (a + e) * D < (l + d) * N + D → w ≤ 400 → 10000 ≤ a → d * 1000000 ≤ l * w → (e * 1000000) * D ≤ (a * (w + 300)) * D
near_of D N l a d e w one near close i j z =
    omega (arith, mul-le-mul_right N z, mul-le-mul_right w near, mul-le-mul_right D i, mul-le-mul_right D j)

-- l and h are the ends below, a and b those above, and N / D is the multiplier, from 1/n to 1
module _ (l h a b N D n w : ℕ) (p : 0 < D) (one : N ≤ D) (least : D ≤ n * N) (under : a * D ≤ l * N) (near : l * N < a * D + D) (over : h * N ≤ b * D) (close : b * D < h * N + D) (order : l ≤ h) where
  ordered : a ≤ b
  ordered = le_of_mul-le-mul_right {k = D} (omega (arith, mul-le-mul_right N order)) p

  bounded : b ≤ h
  bounded = let i : b < h + 1 = lt_of_mul-lt-mul_right D (omega (arith, mul-le-mul_left h one)) in omega arith

  above : 0 < h → 0 < N → 0 < b
  above i j = lt_of_mul-lt-mul_right D {m = 0} {n = b} (omega (arith, mul-pos i j))

  from_below : 0 < a → 0 < l
  from_below i = lt_of_mul-lt-mul_right N {m = 0} {n = l} (omega (arith, mul-pos i p))

  floored : (f : ℕ) → 0 < n → f ≤ l → f / n ≤ a
  floored f i j =
      let x = f / n in
      let u : (f / n) * n ≤ f = div-mul-le_self f n in
      let v : ((f / n) * n) * N ≤ l * N = mul-le-mul_right N (omega arith) in
      let t : f / n < a + 1 = lt_of_mul-lt-mul_right D (omega (arith, mul-le-mul_left (f / n) least)) in
      omega arith

  closer : w ≤ 400 → 10000 ≤ a → (h - l) * 1000000 ≤ l * w → (b - a) * 1000000 ≤ a * (w + 300)
  closer i j k = close_of (h - l) (b - a) (omega arith) (omega (arith, ordered)) k
    where
      close_of : (d e : ℕ) → l + d ≡ h → a + e ≡ b → d * 1000000 ≤ l * w → e * 1000000 ≤ a * (w + 300)
      close_of d e x y z =
          le_of_mul-le-mul_right {k = D} (near_of D N l a d e w one near (rw (x, y) close) i j z) p

less_is : (a l N D p q : ℕ) → 0 < D → p * D ≡ N * q → a * D ≤ l * N → (a * q) * 1000000 ≤ l * (1000000 * p)
less_is a l N D p q w is h = le_of_mul-le-mul_right {k = D} (omega (arith, mul-le-mul_right q h, ap (λ (x : ℕ). l * x) is)) w

more_is : (h b N D p q : ℕ) → 0 < D → p * D ≡ N * q → h * N ≤ b * D → h * (1000000 * p) ≤ (b * q) * 1000000
more_is h b N D p q w is t = le_of_mul-le-mul_right {k = D} (omega (arith, mul-le-mul_right q t, ap (λ (x : ℕ). h * x) is)) w

firm_of : (f n : ℕ) → 0 < n → 10000 ≤ f / n → 10000 ≤ f
firm_of f n p h = omega (arith, div-mul-le_self f n, mul-le-mul_left (f / n) p)

module _ (s : BraceRecord → Kind → Positive) (n : ℕ) (m : Meaning) (law : Lawful m) (b : BraceRecord) (q : Ratios) (k : Kind) (z : Quotient)
    (some : 0 < n) (is : Is (s b k).value z) (most : z.num ≤ z.den) (least : z.den ≤ n * z.num) where
  num_of : 0 < z.num
  num_of = lt_of_mul-lt-mul_right n {m = 0} {n = z.num} (omega (arith, z.whole, least))

  pub scaled_tells : (t t' : Strength) → Tells m b q k (Some t) → Scaled z t t' → Tells (scaled s n m) b q k (Some t')
  scaled_tells told scaled_told e t =
      let l = told.low in
      let h = told.high in
      let l' = scaled_told.low in
      let h' = scaled_told.high in
      let w = z.whole in
      let up = above l h l' h' z.num z.den n m.width w most least t.under t.near t.over t.close e.ordered e.positive num_of in
      let low = floored l h l' h' z.num z.den n m.width w most least t.under t.near t.over t.close e.ordered m.floor some e.floored in
      record {
        unspent = e.unspent;
        under = λ p.
            let i = from_below l h l' h' z.num z.den n m.width w most least t.under t.near t.over t.close e.ordered p in
            law.down b q k (positive_of (millionths l') p ÷⁺ s b k) (positive_of (millionths l) i) (record { across = less_is l' l z.num z.den (s b k).value.num (s b k).value.den w is t.under }) (e.under i);
        positive = up;
        over = law.up b q k (positive_of (millionths h) e.positive) (positive_of (millionths h') up ÷⁺ s b k) (record { across = more_is h h' z.num z.den (s b k).value.num (s b k).value.den w is t.over }) e.over;
        floored = low;
        ordered = ordered l h l' h' z.num z.den n m.width w most least t.under t.near t.over t.close e.ordered;
        bounded = omega (arith, bounded l h l' h' z.num z.den n m.width w most least t.under t.near t.over t.close e.ordered, e.bounded);
        close = λ u.
            let v : m.width + 300 ≤ 700 = omega (arith, u.narrow) in
            let x : min (m.width + 300) 1000000 ≡ m.width + 300 = omega arith in
            let f : 10000 ≤ m.floor = firm_of m.floor n some u.firm in
            rw x (closer l h l' h' z.num z.den n m.width w most least t.under t.near t.over t.close e.ordered (omega arith) (omega (arith, low, u.firm))
            (e.close (record { narrow = omega arith; firm = f })));
      }

-- a chord is spent as below
pub scaled_spent : (s : BraceRecord → Kind → Positive) (n : ℕ) (m : Meaning) (b : BraceRecord) (q : Ratios) (k : Kind) → Tells m b q k None → Tells (scaled s n m) b q k None
scaled_spent s n m b q k e = e

-- a fraction at most 1, and one beyond it
pub within_one : (f : Fraction) (z : Quotient) → Is f z → z.num ≤ z.den → Is (f at_most number 1 1) z
within_one f z is h =
    cond_both _ f (number 1 1) (λ g. Is g z) (λ _. is)
    (λ t. absurd (let i : f.num ≤ f.den = le_of_mul-le-mul_right {k = z.den} (omega (arith, mul-le-mul_right f.den h)) z.whole in omega (arith, leb-false _ _ t)))

pub beyond_one : (f : Fraction) (n d : ℕ) → f.num * d ≡ n * f.den → 0 < d → d < n → (f at_most number 1 1).num * 1 ≡ 1 * (f at_most number 1 1).den
beyond_one f n d is p h =
    cond_both _ f (number 1 1) (λ g. g.num * 1 ≡ 1 * g.den)
    (λ t. absurd (let i : n * f.den ≤ d * f.den = (let u = leb-true _ _ t in omega (arith, mul-le-mul_right d u)) in omega (arith, mul-le-mul_right f.den h, den_positive f)))
    (λ _. refl)

blended : (a x c y u v : ℕ) → c * x ≡ a * y → (c * ((1 * (c + y)) * v) + (y * u) * (c + y)) * ((a + x) * v) ≡ (a * v + x * u) * ((c + y) * ((1 * (c + y)) * v))
blended a x c y u v k =
    let p : (c * v + y * u) * (a + x) ≡ (c + y) * (a * v + x * u) = omega (arith, ap (λ (t : ℕ). t * v) k, ap (λ (t : ℕ). t * u) k) in
    omega (arith, ap (λ (t : ℕ). ((c + y) * v) * t) p)

-- a share of 1 and the rest of u / v: the share is a / b, or c / d as a fraction
pub blend_is : (a b c d u v : ℕ) → c * b ≡ a * d → a ≤ b → c ≤ d → (c * ((1 * d) * v) + ((1 * d - c * 1) * u) * d) * (b * v) ≡ (a * v + (b - a) * u) * (d * ((1 * d) * v))
blend_is a b c d u v is ab cd = core (b - a) (1 * d - c * 1) (omega arith) (omega arith)
  where
    core : (x y : ℕ) → a + x ≡ b → c + y ≡ d → (c * ((1 * d) * v) + (y * u) * d) * (b * v) ≡ (a * v + x * u) * (d * ((1 * d) * v))
    core x y e f =
        let k : c * x ≡ a * y = omega (arith, ap (λ (t : ℕ). c * t) e, ap (λ (t : ℕ). a * t) f) in
        rw (← e, ← f) (blended a x c y u v k)

module _ (a b u v : ℕ) (ab : a ≤ b) where
  pub blend_least : v ≤ 4 * u → b * v ≤ 4 * (a * v + (b - a) * u)
  blend_least h =
      let e : a + (b - a) ≡ b = omega arith in
      omega (arith, mul-le-mul_left (b - a) h, ap (λ (t : ℕ). t * v) e)

  pub blend_most : u ≤ v → a * v + (b - a) * u ≤ b * v
  blend_most h =
      let e : a + (b - a) ≡ b = omega arith in
      omega (arith, mul-le-mul_left (b - a) h, ap (λ (t : ℕ). t * v) e)
