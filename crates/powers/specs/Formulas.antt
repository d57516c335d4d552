-- Formulas, and the fractions that are not above or not below what a formula stands for.
--
--     constant f        an exact number
--     power q e         q ^ e
--     φ ⊕ ψ, φ ⊖ ψ      the sum and the difference
--     φ ⊗ ψ             the product
--     φ at_least ψ      the greater of the two
--     NotAbove φ f      f is at most the result, with a not-above fraction for each power that is added or multiplied and a
--                       not-below one for each that is subtracted
--     NotBelow φ f      the mirror of this
--
-- Assumes nothing.
use Rattle.std.specs.Prelude.{◌⊎◌}
use Rattle.powers.specs.Fractions.{Fraction, ◌≤ᶠ◌, ◌+ᶠ◌, ◌*ᶠ◌}
use Rattle.powers.specs.Powers.{NotAbovePower, NotBelowPower}

infixl 55 ◌at_least◌
infixl 60 ◌⊕◌
infixl 60 ◌⊖◌
infixl 70 ◌⊗◌
pub data Formula : Type 0 where
  constant : Fraction → Formula
  power : Fraction → Fraction → Formula
  ◌⊕◌ : Formula → Formula → Formula
  ◌⊖◌ : Formula → Formula → Formula
  ◌⊗◌ : Formula → Formula → Formula
  ◌at_least◌ : Formula → Formula → Formula

abbrev mutual
  pub NotAbove : Formula → Fraction → Type 0
  NotAbove (constant c) f = f ≤ᶠ c
  NotAbove (power q e) f = NotAbovePower f q e
  NotAbove (φ ⊕ ψ) f = (a : Fraction) × (b : Fraction) × NotAbove φ a × NotAbove ψ b × (f ≤ᶠ a +ᶠ b)
  NotAbove (φ ⊖ ψ) f = (a : Fraction) × (b : Fraction) × NotAbove φ a × NotBelow ψ b × (f +ᶠ b ≤ᶠ a)
  NotAbove (φ ⊗ ψ) f = (a : Fraction) × (b : Fraction) × NotAbove φ a × NotAbove ψ b × (f ≤ᶠ a *ᶠ b)
  NotAbove (φ at_least ψ) f = NotAbove φ f ⊎ NotAbove ψ f

  pub NotBelow : Formula → Fraction → Type 0
  NotBelow (constant c) f = c ≤ᶠ f
  NotBelow (power q e) f = NotBelowPower f q e
  NotBelow (φ ⊕ ψ) f = (a : Fraction) × (b : Fraction) × NotBelow φ a × NotBelow ψ b × (a +ᶠ b ≤ᶠ f)
  NotBelow (φ ⊖ ψ) f = (a : Fraction) × (b : Fraction) × NotBelow φ a × NotAbove ψ b × (a ≤ᶠ f +ᶠ b)
  NotBelow (φ ⊗ ψ) f = (a : Fraction) × (b : Fraction) × NotBelow φ a × NotBelow ψ b × (a *ᶠ b ≤ᶠ f)
  NotBelow (φ at_least ψ) f = NotBelow φ f × NotBelow ψ f
