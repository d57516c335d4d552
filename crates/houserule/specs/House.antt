-- What the owner's rule means.
--
--     house_meaning s    every strength is s millionths, and a chord is spent where more than half of its capacity is taken in compression
--
-- Assumes nothing.
use Rattle.std.specs.Prelude.{ℕ, negsuc, int_lt}
use Rattle.powers.specs.Fractions.{◌≤ᶠ◌}
use Rattle.editions.specs.Meanings.{Meaning, millionths}

abbrev pub house_meaning : ℕ → Meaning
house_meaning s = record {
  spent = λ b q k. int_lt q.p (negsuc 4999);
  notAbove = λ b q k f. f.value ≤ᶠ millionths s;
  notBelow = λ b q k f. millionths s ≤ᶠ f.value;
  width = 0;
  floor = 100000;
}
