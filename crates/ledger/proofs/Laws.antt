-- Laws of the ledger's definitions, for the crates above.
use Rattle.std.proofs.Common.{◌≡◌, ℕ, Bool, true, false, cond, List, [], ◌∷◌, ℤ, pos, is_some, Some, None, Ok, Err, Option, sym, refl, ap, ◌∙◌, arith}
use Rattle.std.specs.Option.{ok_or}
use Rattle.std.specs.List.{AllByRecursion}
use Rattle.ledger.specs.declared.entries.Brace.{Brace}
use Rattle.ledger.specs.Causes.{Cause, because}
use Rattle.ledger.specs.Ledger.{find, Ledger, amend, number_from, is_joint, is_brace, standing, standing_at}

of_ok : {X : Type 0} (o : Option X) (c : Cause) (x : X) → ok_or o c ≡ Ok x → o ≡ Some x
of_ok None c x e = let z : ◌≡◌ {A = ℕ} 0 1 = cc in absurd (omega arith)
of_ok (Some y) c x e = cc

found_if : (t : Bool) (o : Option Brace) (c d : Cause) (x : Brace) → cond t (ok_or o c) (Err d) ≡ Ok x → o ≡ Some x
found_if true o c d x e = of_ok o c x e
found_if false o c d x e = let z : ◌≡◌ {A = ℕ} 0 1 = cc in absurd (omega arith)

-- A brace that stands is found by its numbers.
pub standing_found : (j b : ℤ) (l : Ledger) (n m : ℕ) (held : Brace) → number_from j ≡ Some n → number_from b ≡ Some m → standing j b l ≡ Ok held → find (is_brace n m) l.braces ≡ Some held
unfolding standing
standing_found j b l n m held joint brace e =
    found_if (is_some (find (is_joint n) l.joints)) _ (because 5 (pos 3)) (because 5 (pos 2)) held
    (sym (ap (λ o. standing_at o (number_from b) l) joint ∙ ap (λ o. standing_at (Some n) o l) brace) ∙ e)

-- What holds of each, and of the one that is changed, holds of each after.
pub all_amend : {X : Type 0} (P : X → Type 0) (p : X → Bool) (f : X → X) (xs : List X) → ((x : X) → find p xs ≡ Some x → P (f x)) → AllByRecursion P xs → AllByRecursion P (amend p f xs)
all_amend P p f [] k a = tt
all_amend P p f (x ∷ xs) k a = go (p x) k (λ h. all_amend P p f xs h a.1)
  where
    go : (t : Bool) → ((y : _) → cond t (Some x) (find p xs) ≡ Some y → P (f y)) → (((y : _) → find p xs ≡ Some y → P (f y)) → AllByRecursion P (amend p f xs)) → AllByRecursion P (cond t (f x ∷ xs) (x ∷ amend p f xs))
    go true h rest = (h x refl, a.1)
    go false h rest = (a.0, rest h)
