-- What holds of every formula: a lower bound is at most an upper bound, and bounds can be made weaker.
use Rattle.std.proofs.Common.{inl, inr}
use Rattle.powers.specs.Fractions.{Fraction, ◌≤ᶠ◌}
use Rattle.powers.specs.Formulas.{Formula, constant, power, ◌⊕◌, ◌⊖◌, ◌⊗◌, ◌at_least◌, NotAbove, NotBelow}
use Rattle.powers.proofs.Fractions.{le_refl, le_trans, mul_mono, add_mono, add_cancel}
use Rattle.powers.proofs.Powers.{above_below, lower, raise}

pub meet : (φ : Formula) (f g : Fraction) → NotAbove φ f → NotBelow φ g → f ≤ᶠ g
meet (constant c) f g p q = le_trans p q
meet (power b e) f g p q = above_below f g b e p q
meet (φ ⊕ ψ) f g (a, b, ha, hb, p) (c, d, hc, hd, q) = le_trans p (le_trans (add_mono (meet φ a c ha hc) (meet ψ b d hb hd)) q)
meet (φ ⊖ ψ) f g (a, b, ha, hb, p) (c, d, hc, hd, q) =
    add_cancel f g b (le_trans p (le_trans (meet φ a c ha hc) (le_trans q (add_mono (le_refl {f = g}) (meet ψ d b hd hb)))))
meet (φ ⊗ ψ) f g (a, b, ha, hb, p) (c, d, hc, hd, q) = le_trans p (le_trans (mul_mono (meet φ a c ha hc) (meet ψ b d hb hd)) q)
meet (φ at_least ψ) f g (inl p) (q, r) = meet φ f g p q
meet (φ at_least ψ) f g (inr p) (q, r) = meet ψ f g p r

pub less : (φ : Formula) (f g : Fraction) → f ≤ᶠ g → NotAbove φ g → NotAbove φ f
less (constant c) f g h p = le_trans h p
less (power b e) f g h p = lower f g b e h p
less (φ ⊕ ψ) f g h (a, b, ha, hb, p) = (a, b, ha, hb, le_trans h p)
less (φ ⊖ ψ) f g h (a, b, ha, hb, p) = (a, b, ha, hb, le_trans (add_mono h (le_refl {f = b})) p)
less (φ ⊗ ψ) f g h (a, b, ha, hb, p) = (a, b, ha, hb, le_trans h p)
less (φ at_least ψ) f g h (inl p) = inl (less φ f g h p)
less (φ at_least ψ) f g h (inr p) = inr (less ψ f g h p)

pub more : (φ : Formula) (f g : Fraction) → f ≤ᶠ g → NotBelow φ f → NotBelow φ g
more (constant c) f g h p = le_trans p h
more (power b e) f g h p = raise f g b e h p
more (φ ⊕ ψ) f g h (a, b, ha, hb, p) = (a, b, ha, hb, le_trans p h)
more (φ ⊖ ψ) f g h (a, b, ha, hb, p) = (a, b, ha, hb, le_trans p (add_mono h (le_refl {f = b})))
more (φ ⊗ ψ) f g h (a, b, ha, hb, p) = (a, b, ha, hb, le_trans p h)
more (φ at_least ψ) f g h (p, q) = (more φ f g h p, more ψ f g h q)
