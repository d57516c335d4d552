-- What the calls come to, over plain variables.
use Rattle.std.proofs.Common.{◌≡◌, ℤ, Some, Ok, Err, Result, IsErrAnd, sym, ap, ◌∙◌}
use Rattle.std.specs.Option.{option_or}
use Rattle.records.specs.declared.record.BraceRecord.{BraceRecord}
use Rattle.editions.specs.Meanings.{Meaning}
use Rattle.verdicts.specs.Bindings.{FirstSpent}
use Rattle.verdicts.specs.Verdicts.{Answered}
use Rattle.verdicts.specs.declared.force.Force.{Force}
use Rattle.verdicts.specs.declared.verdict.Spent.{Spent}
use Rattle.verdicts.specs.declared.verdict.Verdict.{Verdict}
use Rattle.ledger.specs.Causes.{cause}
use Rattle.ledger.specs.declared.refusal.Refusal.{Refusal}
use Rattle.ledger.specs.declared.refusal.Refusal.TheVariants.{Spent as SpentChord}
use Rattle.ledger.specs.Ledger.{Ledger, standing, force_cause, note_at, Told, Notes}
use Rattle.book.specs.Checks.{Found, Finds, Checks, kind_cause, spent_at, spent_under}
use Rattle.book.specs.Uses.{first_spent}
use Rattle.book.proofs.Uses.{none_found, first_found}

-- A brace that is loaded, under a chord that is nowhere spent.
pub check_found : {m : Meaning} {j b : ℤ} {l : Ledger} {f : BraceRecord} {n : Force} {v : Verdict} → Told j b l (Ok (f, n)) → Answered m f n v → Found m j b v l
check_found {f = f} {n = n} (held, stands, carried, loaded) answered = record {
  held = held;
  stands = stands;
  figures = f;
  carried = carried;
  force = n;
  loaded = loaded;
  answered = answered;
}

-- A brace that is loaded, under a chord that is spent.
pub check_refused : {m : Meaning} (j b : ℤ) (l : Ledger) {f : BraceRecord} {n : Force} {s : Spent} (r : Result Verdict Refusal) → IsErrAnd r (λ x. x ≡ SpentChord s)
    → Told j b l (Ok (f, n)) → FirstSpent m f n s.kind → Finds m j b l r
check_refused j b l (Ok v) h t first = absurd h
check_refused {m} j b l {f} {n} {s} (Err e) h t first =
    ap (λ c. option_or (note_at c) (spent_at m c)) t.1
    ∙ ap (λ o. option_or (force_cause o) (spent_under m t.0.figures o)) t.3
    ∙ ap (λ x. kind_cause (first_spent m x n)) t.2
    ∙ ap kind_cause (first_found m f n s.kind first)
    ∙ ap (λ x. Some (cause x)) (sym h)

pub check_made : {m : Meaning} {j b : ℤ} {l k : Ledger} {v : Verdict} → Found m j b v l → Notes j b v l k (Ok tt) → Checks m j b l k (Ok v)
check_made {m} {j} {b} {l} f (free, noted) = (
  ap (λ c. option_or c (spent_at m (standing j b l))) free
      ∙ ap (spent_at m) f.stands
      ∙ ap (spent_under m f.held.figures) f.loaded
      ∙ ap (λ x. kind_cause (first_spent m x f.force)) f.carried
      ∙ ap kind_cause (none_found m f.figures f.force f.answered.unspent),
  record { found = f; noted = noted },
)
