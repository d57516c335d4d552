-- Layers over an edition, as functions from meaning to meaning. No layer knows which edition stands below it.
--
--     scaled s n m        the strengths of m times the multiplier s: a fraction is not above, or not below, it when the fraction divided by
--                         the multiplier is so below. Chords are spent as below, the width is 300 more, at most 1,000,000, and the floor
--                         is an n-th, rounded down
--     can_ratio r         Lc/(2.5 D) for β ≤ 0.9, else (4 β − 3) Lc/(1.5 D)
--     can_share r         r, which is that and at most 1
--     can_factor r        k = r + (1 − r)(Tn/T)²
--     can_multiplier r k  k for the axial kinds of Y and X, 1 for the others
--     canned m            the meaning of a can over m
--     hundredths c h      100 / c
--     divided c h m       the meaning of a divisor c over m: every strength divided by c/100
--     Scaled z s t        t is the told strength s times the quotient z
--
-- Assumes nothing.
use Rattle.std.specs.Prelude.{◌≡◌, ℕ, ◌+◌, ◌-◌, ◌*◌, ◌/◌, ◌<◌, ◌≤◌, min, cond, ◌⊎◌}
use Rattle.std.proofs.Common.{inl, inr, mul-pos, eq-zero-or-pos, arith, lit<, lit≤}
use Rattle.std.proofs.lemmas.Bool.{cond_both, leb-true}
use Rattle.powers.specs.declared.quotient.Quotient.{Quotient}
use Rattle.powers.specs.Fractions.{Fraction, Positive, number, quotient, positive_of, den_positive, ◌+ᶠ◌, ◌−ᶠ◌, ◌*ᶠ◌, ◌÷⁺◌, ◌at_most◌}
use Rattle.records.specs.declared.kind.Kind.{Kind}
use Rattle.records.specs.declared.kind.Kind.TheVariants.{KAxial, YTension, YCompression, XTension, XCompression, InPlane, OutOfPlane}
use Rattle.records.specs.declared.record.BraceRecord.{BraceRecord}
use Rattle.editions.specs.declared.strength.Strength.{Strength}
use Rattle.editions.specs.Figures.{of_diameter, of_wall, beta, wall_positive}
use Rattle.editions.specs.Rows.{above_nine_tenths}
use Rattle.editions.specs.Meanings.{Meaning}

abbrev pub scaled : (BraceRecord → Kind → Positive) → ℕ → Meaning → Meaning
scaled s n m = record {
  spent = m.spent;
  notAbove = λ b q k f. m.notAbove b q k (f ÷⁺ s b k);
  notBelow = λ b q k f. m.notBelow b q k (f ÷⁺ s b k);
  width = min (m.width + 300) 1000000;
  floor = m.floor / n;
}

abbrev pub can_ratio : BraceRecord → Fraction
can_ratio r =
    cond (above_nine_tenths r)
    ((number 4 1 *ᶠ beta r −ᶠ number 3 1) *ᶠ of_diameter r r.can.length *ᶠ number 10 15)
    (of_diameter r r.can.length *ᶠ number 10 25)

abbrev pub can_share : BraceRecord → Fraction
can_share r = can_ratio r at_most number 1 1

abbrev pub can_factor : BraceRecord → Fraction
can_factor r =
    let thin = of_wall r r.can.nominal in
    can_share r +ᶠ (number 1 1 −ᶠ can_share r) *ᶠ (thin *ᶠ thin)

pub at_most_one : (f : Fraction) → (f at_most number 1 1).num ≤ (f at_most number 1 1).den
at_most_one f = cond_both _ f (number 1 1) (λ g. g.num ≤ g.den) (λ t. omega (arith, leb-true _ _ t)) (λ _. lit≤ tt)

-- a share a / b of 1 and the rest of u / v is above 0
blend_positive : (a b u v : ℕ) → 0 < b → 0 < u → 0 < v → a ≤ b → 0 < a * ((1 * b) * v) + ((1 * b - a * 1) * u) * b
blend_positive a b u v p q r h = go (eq-zero-or-pos (1 * b - a * 1))
  where
    go : (1 * b - a * 1 ≡ 0) ⊎ (0 < 1 * b - a * 1) → 0 < a * ((1 * b) * v) + ((1 * b - a * 1) * u) * b
    go (inl z) = let n : 0 < a = omega arith in let m : 0 < 1 * b = omega arith in omega (arith, mul-pos n (mul-pos m r))
    go (inr n) = omega (arith, mul-pos (mul-pos n q) p)

pub can_factor_positive : (r : BraceRecord) → 0 < (can_factor r).num
can_factor_positive r =
    let t = wall_positive r in
    let n : 0 < r.can.nominal = (let h = r.thinned in omega arith) in
    blend_positive (can_share r).num (can_share r).den (r.can.nominal * r.can.nominal) (r.wall * r.wall) (den_positive (can_share r)) (mul-pos n n) (mul-pos t t)
    (at_most_one (can_ratio r))

abbrev pub can_multiplier : BraceRecord → Kind → Positive
can_multiplier r KAxial = positive_of (number 1 1) (lit< tt)
can_multiplier r YTension = positive_of (can_factor r) (can_factor_positive r)
can_multiplier r YCompression = positive_of (can_factor r) (can_factor_positive r)
can_multiplier r XTension = positive_of (can_factor r) (can_factor_positive r)
can_multiplier r XCompression = positive_of (can_factor r) (can_factor_positive r)
can_multiplier r InPlane = positive_of (number 1 1) (lit< tt)
can_multiplier r OutOfPlane = positive_of (number 1 1) (lit< tt)

abbrev pub canned : Meaning → Meaning
canned m = scaled can_multiplier 4 m

-- 100 / c
abbrev pub hundredths : (c : ℕ) → 100 ≤ c → Positive
hundredths c h = positive_of (quotient 100 c (omega arith)) (lit< tt)

abbrev pub divided : (c : ℕ) → 100 ≤ c → Meaning → Meaning
divided c h m = scaled (λ _ _. hundredths c h) 2 m

-- What a layer's step does to a told strength: each end times the quotient z, the lower one rounded down and the upper one up.
pub record Scaled (z : Quotient) (s t : Strength) : Type 0 where
  pub under : t.low * z.den ≤ s.low * z.num
  pub near : s.low * z.num < t.low * z.den + z.den
  pub over : s.high * z.num ≤ t.high * z.den
  pub close : t.high * z.den < s.high * z.num + z.den
