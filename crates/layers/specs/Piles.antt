-- Which layers stand on which edition.
--
--     DivisorOver d e c      d is the divisor of c hundredths over the edition e
--     NoDivisorOver n e c    c is no divisor, and n hands e back
--     outside a x b          x is not from a to b
--     fault_of_pile e c k    the first of the edition, the divisor and the can that names nothing
--     BareNamed b n          b is the edition of that number
--     PileNamed p e c k      p has the edition e, a can if k is 1, and on top the divisor c unless c is 100
--
-- Assumes nothing.
use Rattle.std.specs.Prelude.{◌≡◌, Bool, cond, ◌||◌, ℤ, pos, ◌≤ℤ◌, Some, None, Option, ◌≢◌, int_lt}
use Rattle.layers.specs.declared.bare.Bare.{Bare}
use Rattle.layers.specs.declared.bare.Bare.TheVariants.{Iso, Api}
use Rattle.layers.specs.declared.pile.Pile.{Pile}
use Rattle.layers.specs.declared.pile.Pile.TheVariants.{Plain, Canned, Divided, CannedDivided}
use Rattle.layers.specs.declared.pile_fault.PileFault.{PileFault}
use Rattle.layers.specs.declared.divisor.Divisor.{Divisor}
use Rattle.layers.specs.declared.dividing.NoDivisor.{NoDivisor}
use Rattle.layers.specs.declared.pile_fault.PileFault.TheVariants as fault

pub record DivisorOver {E : Type 0} (d : Divisor E) (e : E) (c : ℤ) : Type 0 where
  pub below : d.below ≡ e
  pub is : pos d.c ≡ c

pub record NoDivisorOver {E : Type 0} (n : NoDivisor E) (e : E) (c : ℤ) : Type 0 where
  pub below : n.below ≡ e
  pub fault : n.fault ≡ fault.Divisor
  pub outside : pos 100 ≤ℤ c → c ≤ℤ pos 200 → ⊥

abbrev pub outside : ℤ → ℤ → ℤ → Bool
outside a x b = int_lt x a || int_lt b x

abbrev pub fault_of_pile : ℤ → ℤ → ℤ → Option PileFault
fault_of_pile edition c can =
    cond (outside (pos 1) edition (pos 2)) (Some fault.Edition)
    (cond (outside (pos 100) c (pos 200)) (Some fault.Divisor)
    (cond (outside (pos 0) can (pos 1)) (Some fault.Can) None))

abbrev pub BareNamed : Bare → ℤ → Type 0
BareNamed (Iso e) n = n ≡ pos 1
BareNamed (Api e) n = n ≡ pos 2

abbrev pub PileNamed : Pile → ℤ → ℤ → ℤ → Type 0
PileNamed (Plain e) edition c can = BareNamed e edition × (c ≡ pos 100) × (can ≡ pos 0)
PileNamed (Canned e) edition c can = BareNamed e.below edition × (c ≡ pos 100) × (can ≡ pos 1)
PileNamed (Divided e) edition c can = BareNamed e.below edition × (c ≡ pos e.c) × (c ≢ pos 100) × (can ≡ pos 0)
PileNamed (CannedDivided e) edition c can = BareNamed e.below.below edition × (c ≡ pos e.c) × (c ≢ pos 100) × (can ≡ pos 1)
