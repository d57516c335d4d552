-- What `position` finds: the place of the first that passes, or that there is none.
use Rattle.std.proofs.Common.{◌≡◌, ℕ, suc, ◌+◌, ◌<◌, ◌≤◌, Bool, not, ltb, List, [], ◌∷◌, length, is_some, None, Option, Ok, Err, Result, is_ok, sym, refl, ap, ◌∙◌, subst, inl, inr, arith}
use Rattle.std.specs.Option.{ok_or}
use Rattle.std.specs.List.{position, position_or_len}
use Rattle.std.proofs.lemmas.Bool.{cond-true, cond-false, cond_both, cases_Bool, ltb-true, ltb-false}
use Rattle.ledger.specs.Ledger.{find}
use Rattle.ledger.specs.declared.refusal.Refusal.{Refusal}
use Rattle.ledger.specs.Places.{Found, Spotted}

found_at : {X : Type 0} (p : X → Bool) (xs : List X) (i : ℕ) → i ≡ position_or_len p xs → i < length xs → Found p xs i
found_at p [] i e h = absurd (omega arith)
found_at p (x ∷ xs) i e h =
    elim (cases_Bool (p x)) [
      | inl t ↦
          let here : i ≡ 0 = e ∙ cond-false _ _ _ (ap not t) in
          subst (Found p (x ∷ xs)) (sym here)
          (record { within = omega arith; held = x; here = λ d. refl; there = cond-true _ _ _ t; writes = λ f. cond-true _ _ _ t; drops = cond-true _ _ _ t })
      | inr t ↦
          let more : i ≡ 1 + position_or_len p xs = e ∙ cond-true _ _ _ (ap not t) in
          let past : i ≡ suc (position_or_len p xs) = omega arith in
          let r = found_at p xs (position_or_len p xs) refl (omega arith) in
          let bound : position_or_len p xs < length xs = r.within in
          subst (Found p (x ∷ xs)) (sym past)
          (record {
            within = omega arith;
            held = r.held;
            here = λ d. r.here d;
            there = cond-false _ _ _ t ∙ r.there;
            writes = λ f. cond-false _ _ _ t ∙ ap (λ zs. x ∷ zs) (r.writes f);
            drops = cond-false _ _ _ t ∙ ap (λ zs. x ∷ zs) r.drops;
          })
    ]

none_at : {X : Type 0} (p : X → Bool) (xs : List X) → length xs ≤ position_or_len p xs → find p xs ≡ None
none_at p [] h = refl
none_at p (x ∷ xs) h =
    elim (cases_Bool (p x)) [
      | inl t ↦ let here : position_or_len p (x ∷ xs) ≡ 0 = cond-false _ _ _ (ap not t) in absurd (omega arith)
      | inr t ↦
          let past : position_or_len p (x ∷ xs) ≡ 1 + position_or_len p xs = cond-true _ _ _ (ap not t) in
          cond-false _ _ _ t ∙ none_at p xs (omega arith)
    ]

pub spotted : {X : Type 0} (p : X → Bool) (xs : List X) (e : Refusal) (o : Option ℕ) (r : Result ℕ Refusal) → o ≡ position p xs → r ≡ ok_or o e → Spotted p xs e r
spotted p xs e o r at h =
    subst (Spotted p xs e) (sym (h ∙ ap (λ z. ok_or z e) at))
    (cond_both (ltb (position_or_len p xs) (length xs)) _ _ (λ z. Spotted p xs e (ok_or z e)) (λ t. found_at p xs _ refl (ltb-true _ _ t)) (λ t. (none_at p xs (ltb-false _ _ t), refl)))

pub stands : {X : Type 0} (p : X → Bool) (xs : List X) (e : Refusal) (r : Result ℕ Refusal) → Spotted p xs e r → is_ok r ≡ is_some (find p xs)
stands p xs e (Ok i) f = ap is_some (sym f.there)
stands p xs e (Err x) n = ap is_some (sym n.0)
