-- The chord's factor Qf of both editions, as an exact quotient with a sign.
--
--     ChordFactor                a quotient num / den whose numerator has a sign
--     spent f                    f < 1/10
--     as_fraction f              f without its sign, for a chord that is not spent
--     ChordCoefficients          C1, C2 and C3 in tenths of 1 / over, C1 as a rise less a fall
--     written c                  the coefficients that the code's c holds
--     api_q_f c q                Qf = 1 + C1 P − C2 I − C3 (P² + I² + O²), with P, I and O the ratios over 10,000
--     tenths c1 c2 c3            coefficients in tenths
--     coefficients_of_x r        C1, C2, C3 for both kinds of X
--     coefficients_by_api r k    C1, C2, C3 for the kind k
--     api_chord_factor r q k     Qf by API
--     iso_q_f c q                Qf = 1 − w (C1 P² + C2 (I² + O²))
--     weights_by_iso k           w in thousandths, C1 and C2 for the kind k
--     iso_chord_factor r q k     Qf by ISO
--     Left f z                   the chord is not spent, and z is its Qf
--     ChordTold f a              the answer a is Qf, or none where the chord is spent
--     axial_square s, bending_square s    P² and I² + O², times 10^8, from the parts of the ratios
--     Split                      what the steps of the computation promise one another
--
-- Qf is not cut at 1. Assumes nothing.
use Rattle.std.specs.Prelude.{◌≡◌, ℕ, ◌+◌, ◌-◌, ◌*◌, ◌≤◌, Bool, true, false, cond, ℤ, pos, ◌+ℤ◌, ◌-ℤ◌, ◌*ℤ◌, Some, None, Option, int_lt}
use borrow.Author.Differences.{up, down}
use Rattle.powers.specs.declared.quotient.Quotient.{Quotient}
use Rattle.powers.specs.Fractions.{Fraction, number}
use Rattle.powers.specs.Enclosures.{Is}
use Rattle.records.specs.declared.record.BraceRecord.{BraceRecord}
use Rattle.records.specs.declared.ratios.Ratios.{Ratios}
use Rattle.records.specs.declared.kind.Kind.{Kind}
use Rattle.records.specs.declared.kind.Kind.TheVariants.{KAxial, YTension, YCompression, XTension, XCompression, InPlane, OutOfPlane}
use Rattle.records.specs.Signs.{size}
use Rattle.editions.specs.declared.coefficients.Coefficients.{Coefficients}
use Rattle.editions.specs.declared.coefficients.Weights.{Weights}
use Rattle.editions.specs.declared.coefficients.Signs.{Signs}
use Rattle.editions.specs.Rows.{above_nine_tenths}

pub record ChordFactor : Type 0 where
  pub num : ℤ
  pub den : ℕ

abbrev pub spent : ChordFactor → Bool
spent f = int_lt (pos 10 *ℤ f.num) (pos f.den)

abbrev pub as_fraction : ChordFactor → Fraction
as_fraction f = number (up f.num) f.den

pub record ChordCoefficients : Type 0 where
  pub over : ℕ
  pub rise : ℕ
  pub fall : ℕ
  pub close : ℕ
  pub square : ℕ

abbrev pub written : Coefficients → ChordCoefficients
written c = record { over = c.over; rise = c.rise; fall = c.fall; close = c.close; square = c.square }

-- C1 is (rise − fall) / (10 over), C2 is close / (10 over), C3 is square / (10 over). All is brought to the denominator 10^9 over.
abbrev pub api_q_f : ChordCoefficients → Ratios → ChordFactor
api_q_f c q =
    let c1 = pos c.rise -ℤ pos c.fall in
    record {
      num = ((pos (1000000000 * c.over) +ℤ (c1 *ℤ q.p) *ℤ pos 10000) -ℤ (pos c.close *ℤ q.mi) *ℤ pos 10000)
          -ℤ (pos c.square *ℤ ((q.p *ℤ q.p +ℤ q.mi *ℤ q.mi) +ℤ q.mo *ℤ q.mo));
      den = 1000000000 * c.over;
    }

abbrev pub tenths : (c1 c2 c3 : ℕ) → ChordCoefficients
tenths c1 c2 c3 = record { over = 1; rise = c1; fall = 0; close = c2; square = c3 }

-- 0.2, 0, 0.5 for β ≤ 0.9; then C1 = 0.2 − 4 (β − 0.9) and C3 = 0.5 − 3 (β − 0.9), which are −0.2 and 0.2 at β = 1
abbrev pub coefficients_of_x : BraceRecord → ChordCoefficients
coefficients_of_x r =
    cond (above_nine_tenths r)
    (record {
      over = r.diameter;
      rise = 38 * r.diameter - 40 * r.brace;
      fall = 40 * r.brace - 38 * r.diameter;
      close = 0;
      square = 32 * r.diameter - 30 * r.brace;
    })
    (tenths 2 0 5)

abbrev pub coefficients_by_api : BraceRecord → Kind → ChordCoefficients
coefficients_by_api r KAxial = tenths 2 2 3
coefficients_by_api r YTension = tenths 3 0 8
coefficients_by_api r YCompression = tenths 3 0 8
coefficients_by_api r XTension = coefficients_of_x r
coefficients_by_api r XCompression = coefficients_of_x r
coefficients_by_api r InPlane = tenths 2 0 4
coefficients_by_api r OutOfPlane = tenths 2 0 4

abbrev pub api_chord_factor : BraceRecord → Ratios → Kind → ChordFactor
api_chord_factor r q k = api_q_f (coefficients_by_api r k) q

-- All is brought to the denominator 10^11.
abbrev pub iso_q_f : Weights → Ratios → ChordFactor
iso_q_f c q = record {
  num = pos 100000000000 -ℤ (pos c.w *ℤ (pos c.axial *ℤ (q.p *ℤ q.p) +ℤ pos c.bending *ℤ (q.mi *ℤ q.mi +ℤ q.mo *ℤ q.mo)));
  den = 100000000000;
}

abbrev pub weights : (w c1 c2 : ℕ) → Weights
weights w c1 c2 = record { w = w; axial = c1; bending = c2 }

abbrev pub weights_by_iso : Kind → Weights
weights_by_iso KAxial = weights 30 14 43
weights_by_iso YTension = weights 30 25 11
weights_by_iso YCompression = weights 30 25 11
weights_by_iso XTension = weights 30 20 22
weights_by_iso XCompression = weights 30 20 22
weights_by_iso InPlane = weights 45 25 43
weights_by_iso OutOfPlane = weights 21 25 43

abbrev pub iso_chord_factor : BraceRecord → Ratios → Kind → ChordFactor
iso_chord_factor r q k = iso_q_f (weights_by_iso k) q

pub record Left (f : ChordFactor) (z : Quotient) : Type 0 where
  pub unspent : spent f ≡ false
  pub is : Is (as_fraction f) z
  pub least : z.den ≤ 10 * z.num
  pub most : z.num ≤ 2 * z.den

abbrev pub ChordTold : ChordFactor → Option Quotient → Type 0
ChordTold f None = spent f ≡ true
ChordTold f (Some z) = Left f z

-- P², and I² + O², each times 10^8
abbrev pub axial_square : Signs → ℕ
axial_square s = (s.tension + s.compression) * (s.tension + s.compression)

abbrev pub bending_square : Signs → ℕ
bending_square s = (s.closing + s.opening) * (s.closing + s.opening) + s.side * s.side

pub record Split (q : Ratios) (s : Signs) : Type 0 where
  pub tension : s.tension ≡ up q.p
  pub compression : s.compression ≡ down q.p
  pub closing : s.closing ≡ up q.mi
  pub opening : s.opening ≡ down q.mi
  pub side : s.side ≡ size q.mo
