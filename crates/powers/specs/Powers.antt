-- Bounds of the power q ^ (m / n) of a fraction, said without roots.
--
--     NotAbovePower f q e    f is not above q ^ e: f to e's denominator is at most q to e's numerator
--     NotBelowPower f q e    f is not below q ^ e: f to e's denominator is at least q to e's numerator
--
-- Assumes nothing.
use Rattle.powers.specs.Fractions.{Fraction, ◌≤ᶠ◌, ◌^ᶠ◌}

abbrev pub NotAbovePower : Fraction → Fraction → Fraction → Type 0
NotAbovePower f q e = f ^ᶠ e.den ≤ᶠ q ^ᶠ e.num

abbrev pub NotBelowPower : Fraction → Fraction → Fraction → Type 0
NotBelowPower f q e = q ^ᶠ e.num ≤ᶠ f ^ᶠ e.den
