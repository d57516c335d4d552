-- A run, call by call.
use Rattle.std.proofs.Common.{◌≡◌, List, Result, [], ◌∷◌, ◌++◌, refl, ◌∙◌, subst}
use Rattle.editions.specs.Meanings.{Meaning}
use Rattle.ledger.specs.Ledger.{Ledger, empty}
use Rattle.ledger.specs.declared.refusal.Refusal.{Refusal}
use Rattle.book.specs.declared.book.Book.{Book}
use Rattle.book.specs.declared.calls.Call.{Call}
use Rattle.book.specs.declared.calls.Answer.{Answer}
use Rattle.book.specs.Openings.{Opened}
use Rattle.book.specs.Steps.{Step, Moves, ledger_of}
use Rattle.book.specs.Runs.{Runs, end, next, Performed, Ran}
use Rattle.book.proofs.Stays.{runs_stay}

-- one call more at the end of a run
runs_more : {m : Meaning} {l k n : Ledger} {cs : List Call} {xs : List (Result Answer Refusal)} (c : Call) (a : Result Answer Refusal) → Runs m l cs xs k → Step m k c a n → Runs m l (cs ++ c ∷ []) (xs ++ a ∷ []) n
runs_more {m} {n = n} c a (end e) s = next (subst (λ h. Step m h c a n) e s) (end refl)
runs_more c a (next t r) s = next t (runs_more c a r s)

pub performed_none : {E : Type 0} (mean : E → Meaning) (b : Book E) (xs : List (Result Answer Refusal)) → xs ≡ [] → Performed mean b [] xs b
performed_none mean b xs e = record { edition = refl; runs = rw e (end refl) }

pub performed_more : {E : Type 0} {mean : E → Meaning} {first now then : Book E} {cs ds : List Call} {xs ys : List (Result Answer Refusal)} (c : Call) (a : Result Answer Refusal)
    → Performed mean first cs xs now → Moves now then (λ l k. Step (mean now.edition) l c a k) → ds ≡ cs ++ c ∷ [] → ys ≡ xs ++ a ∷ [] → Performed mean first ds ys then
performed_more {mean = mean} {now = now} {then = then} c a r t p q = record {
  edition = t.edition ∙ r.edition;
  runs = rw (p, q) (runs_more c a r.runs (subst (λ e. Step (mean e) (ledger_of now) c a (ledger_of then)) r.edition t.step));
}

pub ran : {E : Type 0} {mean : E → Meaning} {e : E} {first : Book E} {cs : List Call} {xs : List (Result Answer Refusal)} {after : Book E}
    → Opened mean e first → Performed mean first cs xs after → Ran mean e cs xs after
ran {mean = mean} {e} {first} {cs} {xs} {after} o p =
    let r : Runs (mean e) empty cs xs (ledger_of after) =
    subst (λ l. Runs (mean e) l cs xs (ledger_of after)) o.ledger (subst (λ d. Runs (mean d) (ledger_of first) cs xs (ledger_of after)) o.edition p.runs) in
    record { edition = p.edition ∙ o.edition; usable = o.usable; runs = r; standing = runs_stay o.usable r tt }
