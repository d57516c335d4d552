-- Every step leaves every standing check binding.
use Rattle.std.proofs.Common.{◌≡◌, List, Some, None, Ok, Err, Option, Result, sym, refl, subst}
use Rattle.std.proofs.ByRecursion.{All-push, all_kept_by}
use Rattle.std.specs.List.{AllByRecursion}
use Rattle.editions.specs.Meanings.{Meaning, Usable}
use Rattle.verdicts.specs.Verdicts.{Answered, Worked}
use Rattle.verdicts.specs.Bindings.{Binds}
use Rattle.verdicts.specs.declared.force.Force.{Force}
use Rattle.verdicts.specs.declared.verdict.Verdict.{Verdict}
use Rattle.ledger.proofs.Laws.{standing_found, all_amend}
use Rattle.ledger.specs.Causes.{Cause}
use Rattle.ledger.specs.Ledger.{Ledger, Does, DoesWith, elsewhere, is_brace, brace_with_force, brace_with_check, Entered, Added, Loaded, Withdrawn}
use Rattle.ledger.specs.declared.entries.Brace.{Brace}
use Rattle.ledger.specs.declared.refusal.Refusal.{Refusal}
use Rattle.book.specs.declared.calls.Call.{Call}
use Rattle.book.specs.declared.calls.Call.TheVariants.{Enter, Add, Load, Withdraw, Check, FindWorst}
use Rattle.book.specs.declared.calls.Answer.{Answer}
use Rattle.book.specs.Checks.{CheckMade}
use Rattle.book.specs.Standing.{Stands, Standing}
use Rattle.book.specs.Steps.{Step}
use Rattle.book.specs.Runs.{Runs, end, next}

-- A brace without a check.
bare_stands : (m : Meaning) (b : Brace) → b.check ≡ None → Stands m b
bare_stands m b e v p = absurd (cc)

checked_stands : (m : Meaning) → Usable m → (b : Brace) (n : Force) (v : Verdict) → b.force ≡ Some n → Answered m b.figures n v → Stands m (brace_with_check v b)
checked_stands m u b n v loaded a w p =
    let same : v ≡ w = cc in
    record {
      force = n;
      loaded = loaded;
      unspent = a.unspent;
      reckoners = a.reckoners u;
      worked = subst (λ x. Worked m b.figures n x) same (a.worked u);
      binds = subst (λ x. Binds m b.figures n x) same (a.binds u);
    }

module _ (m : Meaning) (u : Usable m) (l k : Ledger) (s : Standing m l) where
  -- A refusal leaves what stands.
  does_stay : {T : Type 0} (why : Option Cause) (then : Type 0) → (then → Standing m k) → (r : Result T Refusal) → Does why then l k r → Standing m k
  does_stay why then f (Ok x) d = f d.1
  does_stay why then f (Err e) d = subst (Standing m) (sym d.1) s

  does_stay_with : {T : Type 0} (why : Option Cause) (then : T → Type 0) → ((x : T) → then x → Standing m k) → (r : Result T Refusal) → DoesWith why then l k r → Standing m k
  does_stay_with why then f (Ok x) d = f x d.1
  does_stay_with why then f (Err e) d = subst (Standing m) (sym d.1) s

  enters : {j : _} {f : _} → Entered j f l k → Standing m k
  enters t = subst (AllByRecursion (Stands m)) (sym t.braces) s

  adds : {j b : _} {f : _} → Added j b f l k → Standing m k
  adds t = subst (AllByRecursion (Stands m)) (sym t.braces) (All-push (Stands m) l.braces _ s (bare_stands m _ refl))

  loads : {j b : _} {f : _} → Loaded j b f l k → Standing m k
  loads t = subst (AllByRecursion (Stands m)) (sym t.amended.braces) (all_amend (Stands m) (is_brace t.amended.joint t.amended.number) (brace_with_force t.force) l.braces (λ b _. bare_stands m (brace_with_force t.force b) refl) s)

  withdraws : {j : _} → Withdrawn j l k → Standing m k
  withdraws t = subst (AllByRecursion (Stands m)) (sym t.braces) (all_kept_by (elsewhere t.number) (Stands m) l.braces s)

  checks : {j b : _} (v : Verdict) → CheckMade m j b v l k → Standing m k
  checks {j} {b} v t =
      let n = t.noted in
      let f = t.found in
      let here = standing_found j b l n.joint n.number f.held n.joint_numbered n.numbered f.stands in
      let answered = subst (λ x. Answered m x f.force v) (sym f.carried) f.answered in
      subst (AllByRecursion (Stands m)) (sym n.braces)
      (all_amend (Stands m) (is_brace n.joint n.number) (brace_with_check v) l.braces
      (λ x e. let same : f.held ≡ x = cc in subst (λ y. Stands m (brace_with_check v y)) same (checked_stands m u f.held f.force v f.loaded answered)) s)

  pub stays : (c : Call) (a : Result Answer Refusal) → Step m l c a k → Standing m k
  stays (Enter j f) a (r, _, d) = does_stay _ _ (λ t. enters t) r d
  stays (Add j b f) a (r, _, d) = does_stay _ _ (λ t. adds t) r d
  stays (Load j b f) a (r, _, d) = does_stay _ _ (λ t. loads t) r d
  stays (Withdraw j) a (r, _, d) = does_stay _ _ (λ t. withdraws t) r d
  stays (Check j b) a (r, _, d) = does_stay_with _ _ (λ v t. checks v t) r d
  stays FindWorst a (_, e) = subst (Standing m) (sym e) s

pub runs_stay : {m : Meaning} {l k : Ledger} {cs : List Call} {xs : List (Result Answer Refusal)} → Usable m → Runs m l cs xs k → Standing m l → Standing m k
runs_stay {m} u (end e) s = subst (Standing m) (sym e) s
runs_stay {m} u (next {l} {k} {n} {c} {a} t r) s = runs_stay u r (stays m u l k s c a t)
