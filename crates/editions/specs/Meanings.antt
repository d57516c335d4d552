-- What an edition means, and what it tells of a strength.
--
--     Meaning              for a record, the chord's ratios and a kind: whether the chord is spent, and which positive fractions are not
--                          above and not below the strength; and the edition's width and floor
--     Lawful m             a fraction not above is at most every fraction not below; a smaller one than one not above is not above, and
--                          a larger one than one not below is not below
--     Usable m             the width is at most 700 and the floor at least 10,000
--     Enclosed m .. l h    l and h millionths are the ends of the strength: l is 0 or not above, h is not below
--     Tells m .. s         s is what an edition of this meaning tells: the ends of the strength, or none where the chord is spent
--     bare_strength, bare  the meaning of an edition that is a table of factors and one of chord factors: strength = factor times Qf
--     api_meaning, iso_meaning    the two codes' meanings
--     Fine s               the ends of the told strength s are at most 1 part in a million and 3 millionths apart
--     Millionths z s       s tells the ends z, which are in units, in millionths
--
-- Assumes nothing.
use Rattle.std.specs.Prelude.{◌≡◌, ℕ, ◌+◌, ◌-◌, ◌*◌, ◌/◌, ◌^◌, ◌<◌, ◌≤◌, Bool, true, false, Some, None, Option}
use Rattle.powers.specs.declared.ends.Ends.{Ends}
use Rattle.powers.specs.Fractions.{Fraction, Positive, number, positive_of, ◌≤ᶠ◌}
use Rattle.powers.specs.Formulas.{Formula, constant, ◌⊗◌, NotAbove, NotBelow}
use Rattle.records.specs.declared.kind.Kind.{Kind}
use Rattle.records.specs.declared.ratios.Ratios.{Ratios}
use Rattle.records.specs.declared.record.BraceRecord.{BraceRecord}
use Rattle.editions.specs.declared.strength.Strength.{Strength}
use Rattle.editions.specs.Chords.{ChordFactor, spent, as_fraction, api_chord_factor, iso_chord_factor}
use Rattle.editions.specs.Api.{factor_by_api}
use Rattle.editions.specs.Iso.{factor_by_iso}

pub record Meaning : Type 1 where
  pub spent : BraceRecord → Ratios → Kind → Bool
  pub notAbove : BraceRecord → Ratios → Kind → Positive → Type 0
  pub notBelow : BraceRecord → Ratios → Kind → Positive → Type 0
  pub width : ℕ
  pub floor : ℕ

pub record Lawful (m : Meaning) : Type 0 where
  pub between : (b : BraceRecord) (q : Ratios) (k : Kind) (f g : Positive) → m.notAbove b q k f → m.notBelow b q k g → f.value ≤ᶠ g.value
  pub down : (b : BraceRecord) (q : Ratios) (k : Kind) (f g : Positive) → f.value ≤ᶠ g.value → m.notAbove b q k g → m.notAbove b q k f
  pub up : (b : BraceRecord) (q : Ratios) (k : Kind) (f g : Positive) → f.value ≤ᶠ g.value → m.notBelow b q k f → m.notBelow b q k g

pub record Usable (m : Meaning) : Type 0 where
  pub narrow : m.width ≤ 700
  pub firm : 10000 ≤ m.floor

abbrev pub millionths : ℕ → Fraction
millionths n = number n 1000000

pub record Enclosed (m : Meaning) (b : BraceRecord) (q : Ratios) (k : Kind) (low high : ℕ) : Type 0 where
  pub unspent : m.spent b q k ≡ false
  pub under : (p : 0 < low) → m.notAbove b q k (positive_of (millionths low) p)
  pub positive : 0 < high
  pub over : m.notBelow b q k (positive_of (millionths high) positive)
  pub floored : m.floor ≤ low
  pub ordered : low ≤ high
  pub bounded : high ≤ 2000000000
  pub close : Usable m → (high - low) * 1000000 ≤ low * m.width

abbrev pub Tells : Meaning → BraceRecord → Ratios → Kind → Option Strength → Type 0
Tells m b q k None = m.spent b q k ≡ true
Tells m b q k (Some s) = Enclosed m b q k s.low s.high

abbrev pub bare_strength : (BraceRecord → Kind → Formula) → (BraceRecord → Ratios → Kind → ChordFactor) → BraceRecord → Ratios → Kind → Formula
bare_strength factor chord r q k = factor r k ⊗ constant (as_fraction (chord r q k))

abbrev pub bare : (BraceRecord → Kind → Formula) → (BraceRecord → Ratios → Kind → ChordFactor) → Meaning
bare factor chord = record {
  spent = λ r q k. spent (chord r q k);
  notAbove = λ r q k f. NotAbove (bare_strength factor chord r q k) f.value;
  notBelow = λ r q k f. NotBelow (bare_strength factor chord r q k) f.value;
  width = 100;
  floor = 100000;
}

-- The two editions.
abbrev pub api_meaning : Meaning
api_meaning = bare factor_by_api api_chord_factor

abbrev pub iso_meaning : Meaning
iso_meaning = bare factor_by_iso iso_chord_factor

abbrev pub Fine : Option Strength → Type 0
Fine None = Unit {0}
Fine (Some s) = (s.high - s.low) * 1000000 ≤ s.low + 3000000

-- Ends in units are told in millionths, the lower one rounded down and the upper one up.
abbrev pub Millionths : Ends → Strength → Type 0
Millionths z s = (s.low ≡ z.low * 1000000 / 2 ^ 40) × (s.high ≡ (z.high * 1000000 + (2 ^ 40 - 1)) / 2 ^ 40)
