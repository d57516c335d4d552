-- A line by its fields.
use Rattle.std.proofs.Common.{◌≡◌, ℕ, ◌<◌, ◌≤◌, Bool, List, [], ◌∷◌, length, Some, None, Err, sym, ap, ◌∙◌}
use Rattle.std.proofs.lemmas.Bool.{cond-true, cond-false, lt-ltb, le-ltb, eq-eqb, ne_eqb}
use Rattle.cards.specs.declared.word.Word.{Word}
use Rattle.cards.specs.declared.card.CardFault.TheVariants.{TooLong, NoWord, WrongCount}
use Rattle.cards.specs.Words.{word_in, count, placed}
use Rattle.cards.specs.Pieces.{fields_of}
use Rattle.cards.specs.Cards.{numbers_in, by_numbers, by_word, by_fields, card_of}

pub too_long : (ready : Bool) (line : List ℕ) → 120 < length line → Err TooLong ≡ card_of ready line
unfolding card_of
too_long ready line h = sym (cond-true _ _ _ (lt-ltb 120 (length line) h))

pub no_field : (ready : Bool) (line : List ℕ) → length line ≤ 120 → fields_of line ≡ [] → Err NoWord ≡ card_of ready line
unfolding card_of
no_field ready line short none = sym (cond-false _ _ _ (le-ltb 120 (length line) short) ∙ ap (by_fields ready) none)

-- A line that is short enough, by its first field and the others.
module _ (ready : Bool) (line : List ℕ) (t : List ℕ) (ts : List (List ℕ)) (short : length line ≤ 120) (split : fields_of line ≡ t ∷ ts) where
  pub parted : card_of ready line ≡ by_word (placed ready (word_in t)) (length (fields_of line)) ts
  unfolding card_of
  parted = cond-false _ _ _ (le-ltb 120 (length line) short) ∙ ap (by_fields ready) split ∙ ap (λ n. by_word (placed ready (word_in t)) n ts) (ap length (sym split))

  pub no_word : placed ready (word_in t) ≡ None → Err NoWord ≡ card_of ready line
  no_word e = sym (parted ∙ ap (λ o. by_word o (length (fields_of line)) ts) e)

  module _ (w : Word) (named : placed ready (word_in t) ≡ Some w) where
    worded : card_of ready line ≡ by_word (Some w) (length (fields_of line)) ts
    worded = parted ∙ ap (λ o. by_word o (length (fields_of line)) ts) named

    pub wrong_count : (n : ℕ) → n ≡ length (fields_of line) → (n ≡ count w → ⊥) → Err (WrongCount n) ≡ card_of ready line
    wrong_count n e other = sym (worded ∙ ap (λ k. by_word (Some w) k ts) (sym e) ∙ cond-false _ _ _ (ne_eqb n (count w) other))

    module _ (counted : length (fields_of line) ≡ count w) where
      pub numbered : card_of ready line ≡ by_numbers w (numbers_in 2 ts)
      numbered = worded ∙ cond-true _ _ _ (eq-eqb (length (fields_of line)) (count w) counted)
