-- What the checks that stand in a ledger are worth.
--
--     Bound m b v      the verdict v binds the reckoners for the record of the brace b and the force that stands beside it
--     Stands m b       the check that stands at the brace b does, if there is one
--     Standing m l     every check that stands in the ledger l does
--
-- Assumes nothing.
use Rattle.std.specs.Prelude.{◌≡◌, Some}
use Rattle.std.specs.List.{AllByRecursion}
use Rattle.editions.specs.Meanings.{Meaning}
use Rattle.verdicts.specs.Bindings.{NoneSpent, Reckoners, Binds}
use Rattle.verdicts.specs.Verdicts.{Worked}
use Rattle.verdicts.specs.declared.force.Force.{Force}
use Rattle.verdicts.specs.declared.verdict.Verdict.{Verdict}
use Rattle.ledger.specs.Ledger.{Ledger}
use Rattle.ledger.specs.declared.entries.Brace.{Brace}

pub record Bound (m : Meaning) (b : Brace) (v : Verdict) : Type 0 where
  pub force : Force
  pub loaded : b.force ≡ Some force
  pub unspent : NoneSpent m b.figures force
  pub reckoners : Reckoners m b.figures force
  pub worked : Worked m b.figures force v
  pub binds : Binds m b.figures force v

abbrev pub Stands : Meaning → Brace → Type 0
Stands m b = (v : Verdict) → b.check ≡ Some v → Bound m b v

abbrev pub Standing : Meaning → Ledger → Type 0
Standing m l = AllByRecursion (Stands m) l.braces
