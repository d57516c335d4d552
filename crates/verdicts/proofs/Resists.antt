-- Ratios of a load to a resistance, from bounds of the strengths in them.
use Rattle.std.proofs.Common.{ℕ, zero, suc, ◌+◌, ◌*◌, ◌<◌, ◌≤◌, mul-le-mul_right, mul-le-mul_left, arith}
use Rattle.powers.specs.Fractions.{Fraction, Positive, ◌≤ᶠ◌, ◌+ᶠ◌, ◌*ᶠ◌, ◌÷◌, ◌*⁺◌}
use Rattle.verdicts.specs.Reckoners.{whole_number, thousandths, unit}
use Rattle.records.specs.declared.record.BraceRecord.{BraceRecord}
use Rattle.editions.specs.Meanings.{millionths}
use Rattle.powers.proofs.Laws.{le_trans, add_mono}
use Rattle.verdicts.specs.Steps.{based}

abbrev pub billionths : ℕ → Fraction
billionths n = record { num = n; den = 1000000000; whole = tt }

-- what resists at most w billionths of a unit is loaded at least so much
pub ratio_low : (b : BraceRecord) (load w low : ℕ) (p : Positive) → p.value ≤ᶠ billionths w → low * based b w ≤ load * b.sine * 100000000000
    → millionths low ≤ᶠ whole_number load ÷ (unit b *⁺ p)
ratio_low b load w low p h e =
    let s = mul-le-mul_left (low * (b.fy * (b.wall * b.wall))) h.across in
    let t = mul-le-mul_right p.value.den e in
    record { across = omega (arith, s, t) }

pub ratio_high : (b : BraceRecord) (load w high : ℕ) (p : Positive) → billionths w ≤ᶠ p.value → load * b.sine * 100000000000 ≤ high * based b w
    → whole_number load ÷ (unit b *⁺ p) ≤ᶠ millionths high
ratio_high b load w high p h e =
    let s = mul-le-mul_left (high * (b.fy * (b.wall * b.wall))) h.across in
    let t = mul-le-mul_right p.value.den e in
    record { across = omega (arith, s, t) }

-- one class's part of the average
term_le : (share h : ℕ) (f : Fraction) → (0 < share → f ≤ᶠ millionths h) → thousandths share *ᶠ f ≤ᶠ billionths (share * h)
term_le zero h f p = record { across = omega arith }
term_le (suc s) h f p = let q = mul-le-mul_left (suc s) (p (omega arith)).across in record { across = omega (arith, q) }

term_ge : (share h : ℕ) (f : Fraction) → (0 < share → millionths h ≤ᶠ f) → billionths (share * h) ≤ᶠ thousandths share *ᶠ f
term_ge zero h f p = record { across = omega arith }
term_ge (suc s) h f p = let q = mul-le-mul_left (suc s) (p (omega arith)).across in record { across = omega (arith, q) }

join : (a b : ℕ) → billionths a +ᶠ billionths b ≤ᶠ billionths (a + b)
join a b = record { across = omega arith }

part : (a b : ℕ) → billionths (a + b) ≤ᶠ billionths a +ᶠ billionths b
part a b = record { across = omega arith }

module _ (k y x : ℕ) (a b c : ℕ) (f g h : Fraction) where
  pub average_le : (0 < k → f ≤ᶠ millionths a) → (0 < y → g ≤ᶠ millionths b) → (0 < x → h ≤ᶠ millionths c)
      → thousandths k *ᶠ f +ᶠ thousandths y *ᶠ g +ᶠ thousandths x *ᶠ h ≤ᶠ billionths (k * a + y * b + x * c)
  average_le p q r =
      le_trans (add_mono (le_trans (add_mono (term_le k a f p) (term_le y b g q)) (join (k * a) (y * b))) (term_le x c h r)) (join (k * a + y * b) (x * c))

  pub average_ge : (0 < k → millionths a ≤ᶠ f) → (0 < y → millionths b ≤ᶠ g) → (0 < x → millionths c ≤ᶠ h)
      → billionths (k * a + y * b + x * c) ≤ᶠ thousandths k *ᶠ f +ᶠ thousandths y *ᶠ g +ᶠ thousandths x *ᶠ h
  average_ge p q r =
      le_trans (part (k * a + y * b) (x * c)) (add_mono (le_trans (part (k * a) (y * b)) (add_mono (term_ge k a f p) (term_ge y b g q))) (term_ge x c h r))

-- a moment's lever: d times a strength
pub lever_le : (d a : ℕ) (f : Fraction) → f ≤ᶠ millionths a → whole_number d *ᶠ f ≤ᶠ billionths (1000 * (d * a))
lever_le d a f p = let q = mul-le-mul_left d p.across in record { across = omega (arith, q) }

pub lever_ge : (d a : ℕ) (f : Fraction) → millionths a ≤ᶠ f → billionths (1000 * (d * a)) ≤ᶠ whole_number d *ᶠ f
lever_ge d a f p = let q = mul-le-mul_left d p.across in record { across = omega (arith, q) }
