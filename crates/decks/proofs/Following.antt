-- A deck, line by line.
use Rattle.std.proofs.Common.{◌≡◌, ℕ, ◌+◌, List, [], ◌∷◌, ◌++◌, length, Option, Result, sym, refl, ap, ◌∙◌, subst, append_assoc, append-nil, arith}
use Rattle.std.proofs.lemmas.List.{length_push}
use Rattle.cards.specs.Pieces.{lines_of}
use Rattle.decks.specs.declared.fault.Fault.{Fault}
use Rattle.decks.specs.declared.output.CheckLine.{CheckLine}
use Rattle.decks.specs.Desks.{Desk, closed}
use Rattle.decks.specs.Sessions.{Takes}
use Rattle.decks.specs.Outputs.{answer_text}
use Rattle.decks.specs.Responses.{Reads, end, next, Ends, Deck}
use Rattle.decks.proofs.Binds.{reads_bind}

-- one line more
reads_more : {d e f : Desk} {n : ℕ} {ls : List (List ℕ)} {t : List ℕ} (l : List ℕ) (r : Result (Option CheckLine) Fault) (m : ℕ) → m ≡ n + length ls → Reads d n ls t e → Takes e l r f → Reads d n (ls ++ l ∷ []) (t ++ answer_text m r) f
reads_more {f = f} l r m at (end {d} {e} {n} is) t =
    next r (subst (λ x. Takes x l r f) is t) (ap (λ k. answer_text k r) (omega arith) ∙ sym (append-nil (answer_text n r))) (end refl)
reads_more l r m at (next {n = n} {rest = rest} q u w more) t =
    next q u (ap (λ x. x ++ answer_text m r) w ∙ append_assoc (answer_text n q) rest (answer_text m r)) (reads_more l r m (omega arith) more t)

-- The lines so far, the text that they print, and those that are left.
pub record Sofar (input : List ℕ) (rest : List (List ℕ)) (text : List ℕ) (count : ℕ) (d : Desk) : Type 0 where
  pub before : List (List ℕ)
  pub split : before ++ rest ≡ lines_of input
  pub counted : count ≡ length before
  pub reads : Reads closed 1 before text d

pub sofar_none : (input : List ℕ) (rest : List (List ℕ)) (text : List ℕ) (count : ℕ) (d : Desk) → rest ≡ lines_of input → text ≡ [] → count ≡ 0 → d ≡ closed → Sofar input rest text count d
sofar_none input rest text count d whole t c is = record { before = []; split = whole; counted = c; reads = rw t (end is) }

pub sofar_more : (input : List ℕ) (rest after : List (List ℕ)) (text more : List ℕ) (count next_count number : ℕ) (d e : Desk) (l : List ℕ) (r : Result (Option CheckLine) Fault) → Sofar input rest text count d
    → rest ≡ l ∷ after → number ≡ count + 1 → next_count ≡ count + 1 → Takes d l r e → more ≡ text ++ answer_text number r → Sofar input after more next_count e
sofar_more input rest after text more count next_count number d e l r so first n c t w = record {
  before = so.before ++ l ∷ [];
  split = append_assoc so.before (l ∷ []) after ∙ ap (λ x. so.before ++ x) (sym first) ∙ so.split;
  counted = c ∙ sym (length_push so.before l ∙ ap (λ k. k + 1) (sym so.counted));
  reads = rw w (reads_more l r number (omega (arith, so.counted)) so.reads t);
}

pub deck_whole : (input : List ℕ) (rest : List (List ℕ)) (text last out : List ℕ) (count : ℕ) (d : Desk) → Sofar input rest text count d → rest ≡ [] → Ends d last → out ≡ text ++ last → Deck input out
deck_whole input rest text last out count d so none ends whole =
    let all : so.before ≡ lines_of input = sym (append-nil so.before) ∙ ap (λ x. so.before ++ x) (sym none) ∙ so.split in
    let reads = subst (λ ls. Reads closed 1 ls text d) all so.reads in
    record { desk = d; text = text; last = last; reads = reads; ends = ends; whole = whole; binding = reads_bind reads tt }
