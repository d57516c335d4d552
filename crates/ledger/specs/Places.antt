-- Where a search found what it looked for.
--
--     Found p xs i    i is the place of the first of xs that passes p: what stands there, and what a write or a removal there does
--     Spotted p xs e r    r is that place, or the refusal e where none of xs passes
--     Stood j b l r   r is the place of the brace of these numbers, or the refusal that there is none
--
-- Assumes nothing.
use Rattle.std.specs.Prelude.{◌≡◌, ℕ, ◌<◌, Bool, List, length, ℤ, Some, None, Ok, Err, Result, slice_index_or, slice_set}
use Rattle.std.specs.List.{remove}
use Rattle.ledger.specs.declared.refusal.Refusal.{Refusal}
use Rattle.ledger.specs.Causes.{cause}
use Rattle.ledger.specs.Ledger.{Ledger, find, amend, without, number_from, is_brace, standing}

pub record Found {X : Type 0} (p : X → Bool) (xs : List X) (i : ℕ) : Type 0 where
  pub within : i < length xs
  pub held : X
  pub here : (d : X) → slice_index_or xs i d ≡ held
  pub there : find p xs ≡ Some held
  pub writes : (f : X → X) → amend p f xs ≡ slice_set xs i (f held)
  pub drops : without p xs ≡ remove xs i

-- Where it found it, or the refusal e where there is none.
abbrev pub Spotted : {X : Type 0} → (X → Bool) → List X → Refusal → Result ℕ Refusal → Type 0
Spotted p xs e (Ok i) = Found p xs i
Spotted p xs e (Err x) = (find p xs ≡ None) × (x ≡ e)

pub record At (j b : ℤ) (l : Ledger) (i : ℕ) : Type 0 where
  pub joint : ℕ
  pub number : ℕ
  pub joint_numbered : number_from j ≡ Some joint
  pub numbered : number_from b ≡ Some number
  pub found : Found (is_brace joint number) l.braces i
  pub stands : standing j b l ≡ Ok found.held

abbrev pub Stood : ℤ → ℤ → Ledger → Result ℕ Refusal → Type 0
Stood j b l (Ok i) = At j b l i
Stood j b l (Err e) = standing j b l ≡ Err (cause e)
