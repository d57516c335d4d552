-- What each call does to the ledger of a book, and what it answers.
--
--     ledger_of b             what the book b holds
--     Moves before after S    a call leaves the edition as it was, and takes the ledger by the step S
--     Answers word a P        the answer a is a result that P holds of, with its value told by the word; a refusal stays as it is
--     Step m l c a k          the call c on the ledger l answers a and leaves k, by an edition of the meaning m
--
-- Assumes nothing.
use Rattle.std.specs.Prelude.{◌≡◌, Result}
use Rattle.std.specs.Result.{result_map_both}
use Rattle.editions.specs.Meanings.{Meaning}
use Rattle.ledger.specs.Ledger.{Ledger, holding, Enters, Adds, Loads, Withdraws}
use Rattle.ledger.specs.Worsts.{Names}
use Rattle.ledger.specs.declared.refusal.Refusal.{Refusal}
use Rattle.book.specs.declared.book.Book.{Book}
use Rattle.book.specs.declared.calls.Call.{Call}
use Rattle.book.specs.declared.calls.Call.TheVariants.{Enter, Add, Load, Withdraw, Check, FindWorst}
use Rattle.book.specs.declared.calls.Answer.{Answer}
use Rattle.book.specs.declared.calls.Answer.TheVariants.{Done, Checked, Found}
use Rattle.book.specs.Checks.{Checks}

abbrev pub ledger_of : {E : Type 0} → Book E → Ledger
ledger_of b = holding b.tables

pub record Moves {E : Type 0} (before after : Book E) (S : Ledger → Ledger → Type 0) : Type 0 where
  pub edition : after.edition ≡ before.edition
  pub step : S (ledger_of before) (ledger_of after)

-- The answer a is the result of a call that promises P of it, its value told by the word.
abbrev pub Answers : {T : Type 0} → (T → Answer) → Result Answer Refusal → (Result T Refusal → Type 0) → Type 0
Answers {T} word a P = (r : Result T Refusal) × (a ≡ result_map_both word (λ e. e) r) × P r

abbrev pub Step : Meaning → Ledger → Call → Result Answer Refusal → Ledger → Type 0
Step m l (Enter j f) a k = Answers (λ _. Done) a (Enters j f l k)
Step m l (Add j b f) a k = Answers (λ _. Done) a (Adds j b f l k)
Step m l (Load j b f) a k = Answers (λ _. Done) a (Loads j b f l k)
Step m l (Withdraw j) a k = Answers (λ _. Done) a (Withdraws j l k)
Step m l (Check j b) a k = Answers Checked a (Checks m j b l k)
Step m l FindWorst a k = Answers Found a (Names l) × (k ≡ l)
