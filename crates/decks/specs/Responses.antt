-- The whole answer to an input.
--
--     Reads d n ls t e    the lines ls, of which the first has the number n, take the desk d to e and print t
--     Ends d t            t is the last line that is printed: the worst of the desk d
--     Binding d           every check that stands on the desk d binds the reckoners
--     Deck input out      out is what the lines of the input print, one after the other, on a desk that is closed at first, and then the worst
--     Responds input out  out is that, or for more than 32,768 bytes one line only; and every pile is usable, so that each verdict on the
--                         way binds the reckoners too
--
-- Assumes nothing.
use Rattle.std.specs.Prelude.{◌≡◌, ℕ, ◌+◌, ◌<◌, ◌≤◌, List, [], ◌∷◌, ◌++◌, length, codes, Option, Result}
use Rattle.editions.specs.Meanings.{Usable}
use Rattle.layers.specs.declared.pile.Pile.{Pile}
use Rattle.layers.specs.PileMeanings.{pile_meaning}
use Rattle.ledger.specs.Worsts.{Names}
use Rattle.ledger.specs.declared.entries.Worst.{Worst}
use Rattle.ledger.specs.declared.refusal.Refusal.{Refusal}
use Rattle.book.specs.Standing.{Standing}
use Rattle.cards.specs.Pieces.{lines_of}
use Rattle.decks.specs.declared.fault.Fault.{Fault}
use Rattle.decks.specs.declared.output.CheckLine.{CheckLine}
use Rattle.decks.specs.Desks.{Desk, closed, kept_by}
use Rattle.decks.specs.Sessions.{Takes}
use Rattle.decks.specs.Outputs.{answer_text, none_worst, worst_text}

pub data Reads : Desk → ℕ → List (List ℕ) → List ℕ → Desk → Type 0 where
  end : {d e : Desk} {n : ℕ} → e ≡ d → Reads d n [] [] e
  next : {d e f : Desk} {n : ℕ} {l text rest : List ℕ} {ls : List (List ℕ)} (r : Result (Option CheckLine) Fault) → Takes d l r e → text ≡ answer_text n r ++ rest → Reads e (n + 1) ls rest f
      → Reads d n (l ∷ ls) text f

abbrev pub Ends : Desk → List ℕ → Type 0
Ends closed t = t ≡ none_worst
Ends (kept_by p l) t = (r : Result Worst Refusal) × Names l r × (t ≡ worst_text r)

abbrev pub Binding : Desk → Type 0
Binding closed = Unit {0}
Binding (kept_by p l) = Standing (pile_meaning p) l

pub record Deck (input out : List ℕ) : Type 0 where
  pub desk : Desk
  pub text : List ℕ
  pub last : List ℕ
  pub reads : Reads closed 1 (lines_of input) text desk
  pub ends : Ends desk last
  pub whole : out ≡ text ++ last
  pub binding : Binding desk

pub record Responds (input out : List ℕ) : Type 0 where
  pub deck : length input ≤ 32768 → Deck input out
  pub much : 32768 < length input → out ≡ codes "REFUSED,0,17,0\n"
  pub usable : (p : Pile) → Usable (pile_meaning p)
