-- What the tests' edition means.
--
--     rated_meaning w f    every strength is a tenth and no chord is spent; the width is w and the floor f
--
-- Assumes nothing.
use Rattle.std.specs.Prelude.{ℕ, false}
use Rattle.powers.specs.Fractions.{◌≤ᶠ◌}
use Rattle.editions.specs.Meanings.{Meaning, millionths}

abbrev pub rated_meaning : ℕ → ℕ → Meaning
rated_meaning w f = record {
  spent = λ b q k. false;
  notAbove = λ b q k f. f.value ≤ᶠ millionths 100000;
  notBelow = λ b q k f. millionths 100000 ≤ᶠ f.value;
  width = w;
  floor = f;
}
