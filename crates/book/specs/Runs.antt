-- Whole runs: any list of calls on a new book, by any edition that keeps the laws.
--
--     Runs m l cs xs k             the calls cs on the ledger l have the answers xs, one by one, and leave k
--     Performed mean b cs xs d     the calls take a book so, and leave its edition as it was
--     Ran mean e cs xs b           the promise: the book b is kept by the edition e, which is usable; its ledger is what the calls make of
--                                  an empty one, with these answers; and every check that stands in it binds the reckoners
--
-- Assumes nothing.
use Rattle.std.specs.Prelude.{◌≡◌, List, [], ◌∷◌, Result}
use Rattle.editions.specs.Meanings.{Meaning, Usable}
use Rattle.ledger.specs.Ledger.{Ledger, empty}
use Rattle.ledger.specs.declared.refusal.Refusal.{Refusal}
use Rattle.book.specs.declared.book.Book.{Book}
use Rattle.book.specs.declared.calls.Call.{Call}
use Rattle.book.specs.declared.calls.Answer.{Answer}
use Rattle.book.specs.Steps.{Step, ledger_of}
use Rattle.book.specs.Standing.{Standing}

pub data Runs (m : Meaning) : Ledger → List Call → List (Result Answer Refusal) → Ledger → Type 0 where
  end : {l k : Ledger} → k ≡ l → Runs m l [] [] k
  next : {l k n : Ledger} {c : Call} {a : Result Answer Refusal} {cs : List Call} {xs : List (Result Answer Refusal)} → Step m l c a k → Runs m k cs xs n → Runs m l (c ∷ cs) (a ∷ xs) n

pub record Performed {E : Type 0} (mean : E → Meaning) (before : Book E) (cs : List Call) (xs : List (Result Answer Refusal)) (after : Book E) : Type 0 where
  pub edition : after.edition ≡ before.edition
  pub runs : Runs (mean before.edition) (ledger_of before) cs xs (ledger_of after)

pub record Ran {E : Type 0} (mean : E → Meaning) (e : E) (cs : List Call) (xs : List (Result Answer Refusal)) (after : Book E) : Type 0 where
  pub edition : after.edition ≡ e
  pub usable : Usable (mean e)
  pub runs : Runs (mean e) empty cs xs (ledger_of after)
  pub standing : Standing (mean e) (ledger_of after)
