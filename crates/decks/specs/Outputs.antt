-- What is printed.
--
--     comma x rest         x, a comma and rest
--     word_of v            PASS, FAIL, NEAR or FAR
--     refused_text n c     REFUSED, the line n, and the number and the value of the cause c
--     fault_text f         what is refused of the line's fault f, with its line
--     check_text c         RESULT, the joint, the brace and the word of the verdict of the check's line c
--     told_text t          what an accepted line prints: a check's line, and nothing for any other card
--     answer_text n r      what the line n prints
--     last_text j b        WORST, the joint j and the brace b
--     none_worst           WORST and two zeros: no check stands
--     worst_text r         the last text of the worst's joint and brace; that of none where no check stands
--
-- Assumes nothing.
use Rattle.std.specs.Prelude.{ℕ, List, [], ◌++◌, Some, None, Ok, Err, codes, decimal, Option, Result}
use Rattle.std.specs.Fmt.{signed_decimal}
use Rattle.verdicts.specs.declared.verdict.Verdict.{Verdict}
use Rattle.verdicts.specs.declared.verdict.Verdict.TheVariants.{Pass, Fail, Near, Far}
use Rattle.ledger.specs.Causes.{Cause}
use Rattle.ledger.specs.declared.entries.Worst.{Worst}
use Rattle.ledger.specs.declared.refusal.Refusal.{Refusal}
use Rattle.decks.specs.declared.fault.Fault.{Fault}
use Rattle.decks.specs.declared.output.LineFault.{LineFault}
use Rattle.decks.specs.declared.output.CheckLine.{CheckLine}
use Rattle.decks.specs.Faults.{fault_cause}

abbrev pub comma : List ℕ → List ℕ → List ℕ
comma x rest = x ++ (codes "," ++ rest)

abbrev pub word_of : Verdict → List ℕ
word_of (Pass e) = codes "PASS"
word_of (Fail e) = codes "FAIL"
word_of (Near e) = codes "NEAR"
word_of (Far p) = codes "FAR"

abbrev pub refused_text : ℕ → Cause → List ℕ
refused_text n c = codes "REFUSED," ++ comma (decimal n) (comma (decimal c.number) (signed_decimal c.value ++ codes "\n"))

abbrev pub check_text : CheckLine → List ℕ
check_text c = codes "RESULT," ++ comma (signed_decimal c.joint) (comma (signed_decimal c.brace) (word_of c.verdict ++ codes "\n"))

abbrev pub told_text : Option CheckLine → List ℕ
told_text None = []
told_text (Some c) = check_text c

abbrev pub fault_text : LineFault → List ℕ
fault_text f = refused_text f.line (fault_cause f.fault)

abbrev pub answer_text : ℕ → Result (Option CheckLine) Fault → List ℕ
answer_text n (Ok t) = told_text t
answer_text n (Err f) = refused_text n (fault_cause f)

abbrev pub last_text : ℕ → ℕ → List ℕ
last_text j b = codes "WORST," ++ comma (decimal j) (decimal b ++ codes "\n")

abbrev pub none_worst : List ℕ
none_worst = codes "WORST,0,0\n"

abbrev pub worst_text : Result Worst Refusal → List ℕ
worst_text (Ok w) = last_text w.joint w.brace
worst_text (Err e) = none_worst
