-- A check as the ledger takes it, fed with the verdict.
--
--     kind_cause k           the cause that the chord is spent for the kind k
--     check_cause m j b l    why a check is refused, if it is: there is no such brace, or it is not loaded, or the chord is spent for a kind in use
--     Found m j b v l        the verdict v binds the reckoners for the record and the force of that brace
--     Finds m j b l r        r is such a verdict, or the refusal of a check
--     CheckMade m j b v l k  it does, and is written down in k
--     Checks m j b l k r     what a check answers, and what then stands
--
-- Assumes nothing.
use Rattle.std.specs.Prelude.{◌≡◌, ℤ, Some, None, Ok, Err, Option, Result}
use Rattle.std.specs.Option.{option_or}
use Rattle.records.specs.declared.kind.Kind.{Kind}
use Rattle.records.specs.declared.record.BraceRecord.{BraceRecord}
use Rattle.editions.specs.Meanings.{Meaning}
use Rattle.verdicts.specs.Verdicts.{Answered}
use Rattle.verdicts.specs.declared.force.Force.{Force}
use Rattle.verdicts.specs.declared.verdict.Verdict.{Verdict}
use Rattle.ledger.specs.Causes.{Cause, cause}
use Rattle.ledger.specs.Ledger.{Ledger, DoesWith, standing, note_cause, Noted}
use Rattle.ledger.specs.declared.entries.Brace.{Brace}
use Rattle.ledger.specs.declared.refusal.Refusal.{Refusal}
use Rattle.ledger.specs.declared.refusal.Refusal.TheVariants.{Spent}
use Rattle.book.specs.Uses.{first_spent}

abbrev pub kind_cause : Option Kind → Option Cause
kind_cause None = None
kind_cause (Some k) = Some (cause (Spent (record { kind = k })))

abbrev pub spent_under : Meaning → BraceRecord → Option Force → Option Cause
spent_under m b None = None
spent_under m b (Some n) = kind_cause (first_spent m b n)

abbrev pub spent_at : Meaning → Result Brace Cause → Option Cause
spent_at m (Err c) = None
spent_at m (Ok b) = spent_under m b.figures b.force

abbrev pub check_cause : Meaning → ℤ → ℤ → Ledger → Option Cause
check_cause m j b l = option_or (note_cause j b l) (spent_at m (standing j b l))

-- The verdict v is what a check of that brace answers, by its record and its force.
pub record Found (m : Meaning) (j b : ℤ) (v : Verdict) (l : Ledger) : Type 0 where
  pub held : Brace
  pub stands : standing j b l ≡ Ok held
  pub figures : BraceRecord
  pub carried : held.figures ≡ figures
  pub force : Force
  pub loaded : held.force ≡ Some force
  pub answered : Answered m figures force v

abbrev pub Finds : Meaning → ℤ → ℤ → Ledger → Result Verdict Refusal → Type 0
Finds m j b l (Ok v) = Found m j b v l
Finds m j b l (Err e) = check_cause m j b l ≡ Some (cause e)

pub record CheckMade (m : Meaning) (j b : ℤ) (v : Verdict) (l k : Ledger) : Type 0 where
  pub found : Found m j b v l
  pub noted : Noted j b v l k

abbrev pub Checks : Meaning → ℤ → ℤ → Ledger → Ledger → Result Verdict Refusal → Type 0
Checks m j b l k r = DoesWith (check_cause m j b l) (λ v. CheckMade m j b v l k) l k r
