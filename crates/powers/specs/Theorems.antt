-- What holds of every formula.
--
--     Meets             a fraction not above a formula is at most every fraction not below it
--     StaysNotAbove     a smaller or equal fraction than one not above is not above
--     StaysNotBelow     a larger or equal fraction than one not below is not below
--
-- Assumes nothing.
use Rattle.powers.specs.Fractions.{Fraction, ◌≤ᶠ◌}
use Rattle.powers.specs.Formulas.{Formula, NotAbove, NotBelow}

abbrev pub Meets : Type 0
Meets = (φ : Formula) (f g : Fraction) → NotAbove φ f → NotBelow φ g → f ≤ᶠ g

abbrev pub StaysNotAbove : Type 0
StaysNotAbove = (φ : Formula) (f g : Fraction) → f ≤ᶠ g → NotAbove φ g → NotAbove φ f

abbrev pub StaysNotBelow : Type 0
StaysNotBelow = (φ : Formula) (f g : Fraction) → f ≤ᶠ g → NotBelow φ f → NotBelow φ g
