-- The worst brace.
--
--     reach v           the upper end of the verdict v; beyond every end for FAR
--     beyond a b        a is the higher reach
--     over v w          v reaches higher than w
--     Under, NotOver    a check that stands at a brace is under a verdict, or not over it
--     Highest bs w      w names the first brace of those whose checks reach highest
--     with_brace w b    the worst so far, w, with one more brace
--     WorstOf bs r      r is such a brace, or the refusal that no check stands
--     worst_cause l     why there is none to name: no check stands
--     Names l r         r is the worst brace of the ledger l, or that refusal
--
-- Assumes nothing.
use Rattle.std.specs.Prelude.{◌≡◌, Bool, true, false, cond, List, ◌∷◌, ◌++◌, is_some, Some, None, Ok, Err, Option, Result, nat_lt}
use Rattle.std.specs.List.{AllByRecursion}
use Rattle.verdicts.specs.declared.verdict.Verdict.{Verdict}
use Rattle.verdicts.specs.declared.verdict.Verdict.TheVariants.{Pass, Fail, Near, Far}
use Rattle.ledger.specs.declared.calls.Reach.{Reach}
use Rattle.ledger.specs.declared.calls.Reach.TheVariants.{End, Far as Beyond}
use Rattle.ledger.specs.declared.entries.Brace.{Brace}
use Rattle.ledger.specs.declared.entries.Worst.{Worst}
use Rattle.ledger.specs.Causes.{Cause, cause}
use Rattle.ledger.specs.declared.refusal.Refusal.{Refusal}
use Rattle.ledger.specs.declared.refusal.Refusal.TheVariants.{Unchecked}
use Rattle.ledger.specs.Ledger.{Ledger, find, DoesWith}

abbrev pub reach : Verdict → Reach
reach (Pass e) = End e.high
reach (Fail e) = End e.high
reach (Near e) = End e.high
reach (Far p) = Beyond

abbrev pub beyond : Reach → Reach → Bool
beyond Beyond Beyond = false
beyond Beyond (End b) = true
beyond (End a) Beyond = false
beyond (End a) (End b) = nat_lt b a

abbrev pub over : Verdict → Verdict → Bool
over v w = beyond (reach v) (reach w)

abbrev pub Under : Verdict → Brace → Type 0
Under w b = (v : Verdict) → b.check ≡ Some v → over w v ≡ true

abbrev pub NotOver : Verdict → Brace → Type 0
NotOver w b = (v : Verdict) → b.check ≡ Some v → over v w ≡ false

abbrev pub NotChecked : Brace → Type 0
NotChecked b = b.check ≡ None

pub record Highest (bs : List Brace) (w : Worst) : Type 0 where
  pub before : List Brace
  pub here : Brace
  pub behind : List Brace
  pub split : bs ≡ before ++ here ∷ behind
  pub stands : here.check ≡ Some w.verdict
  pub joint : w.joint ≡ here.joint
  pub brace : w.brace ≡ here.number
  pub first : AllByRecursion (Under w.verdict) before
  pub top : AllByRecursion (NotOver w.verdict) behind

-- The worst so far, with one more brace.
abbrev pub with_verdict : Option Worst → Brace → Option Verdict → Option Worst
with_verdict w b None = w
with_verdict None b (Some v) = Some (record { joint = b.joint; brace = b.number; verdict = v })
with_verdict (Some w) b (Some v) = cond (over v w.verdict) (Some (record { joint = b.joint; brace = b.number; verdict = v })) (Some w)

abbrev pub with_brace : Option Worst → Brace → Option Worst
with_brace w b = with_verdict w b b.check

abbrev pub WorstOf : List Brace → Result Worst Refusal → Type 0
WorstOf bs (Ok w) = Highest bs w
WorstOf bs (Err e) = (e ≡ Unchecked) × AllByRecursion NotChecked bs

abbrev pub is_checked : Brace → Bool
is_checked b = is_some b.check

abbrev pub worst_cause : Ledger → Option Cause
worst_cause l = cond (is_some (find is_checked l.braces)) None (Some (cause Unchecked))

abbrev pub Names : Ledger → Result Worst Refusal → Type 0
Names l r = DoesWith (worst_cause l) (Highest l.braces) l l r
