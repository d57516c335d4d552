-- The walk of `worst` keeps the first of the highest.
use Rattle.std.proofs.Common.{◌≡◌, ℕ, true, false, List, [], ◌∷◌, ◌++◌, is_some, Some, None, fold, Option, Result, sym, refl, ap, ◌∙◌, subst, arith}
use Rattle.std.specs.Option.{ok_or}
use Rattle.std.specs.List.{AllByRecursion}
use Rattle.std.proofs.lemmas.List.{append_assoc, append-nil}
use Rattle.std.proofs.ByRecursion.{All-push, All-append, All-weaker}
use Rattle.std.proofs.lemmas.Bool.{cond-true, cond-false, cond_both, ltb-true, ltb-false, lt-ltb}
use Rattle.verdicts.specs.declared.verdict.Verdict.{Verdict}
use Rattle.ledger.specs.declared.calls.Reach.{Reach}
use Rattle.ledger.specs.declared.calls.Reach.TheVariants.{End, Far}
use Rattle.ledger.specs.declared.entries.Brace.{Brace}
use Rattle.ledger.specs.declared.entries.Worst.{Worst}
use Rattle.ledger.specs.declared.refusal.Refusal.{Refusal}
use Rattle.ledger.specs.declared.refusal.Refusal.TheVariants.{Unchecked}
use Rattle.ledger.specs.Worsts.{reach, beyond, over, Under, NotOver, NotChecked, Highest, WorstOf, is_checked, Names, with_verdict, with_brace}
use Rattle.ledger.specs.Ledger.{find, Ledger}

no_way : {A : Type 0} → false ≡ true → A
no_way e = let z : ◌≡◌ {A = ℕ} 0 1 = cc in absurd (omega arith)

beyond_both : (a b c : Reach) → beyond a b ≡ true → beyond b c ≡ true → beyond a c ≡ true
beyond_both Far Far c h k = no_way h
beyond_both Far (End b) Far h k = no_way k
beyond_both Far (End b) (End c) h k = refl
beyond_both (End a) Far c h k = no_way h
beyond_both (End a) (End b) Far h k = no_way k
beyond_both (End a) (End b) (End c) h k = let x = ltb-true _ _ h in let y = ltb-true _ _ k in lt-ltb _ _ (omega arith)

beyond_not : (a b c : Reach) → beyond a b ≡ true → beyond c b ≡ false → beyond a c ≡ true
beyond_not Far Far c h k = no_way h
beyond_not Far (End b) Far h k = no_way (sym k)
beyond_not Far (End b) (End c) h k = refl
beyond_not (End a) Far c h k = no_way h
beyond_not (End a) (End b) Far h k = no_way (sym k)
beyond_not (End a) (End b) (End c) h k = let x = ltb-true _ _ h in let y = ltb-false _ _ k in lt-ltb _ _ (omega arith)

abbrev BestOf : List Brace → Option Worst → Type 0
BestOf bs None = AllByRecursion NotChecked bs
BestOf bs (Some w) = Highest bs w

-- with a brace at the end that is not over the best
stays : (bs : List Brace) (b : Brace) (w : Worst) → Highest bs w → NotOver w.verdict b → Highest (bs ++ b ∷ []) w
stays bs b w s n = record {
  before = s.before;
  here = s.here;
  behind = s.behind ++ b ∷ [];
  split = ap (λ t. t ++ b ∷ []) s.split ∙ append_assoc s.before (s.here ∷ s.behind) (b ∷ []);
  stands = s.stands;
  joint = s.joint;
  brace = s.brace;
  first = s.first;
  top = All-push (NotOver w.verdict) s.behind b s.top n;
}

-- with a brace at the end that is over the best
passes : (bs : List Brace) (b : Brace) (v : Verdict) → b.check ≡ Some v → AllByRecursion (Under v) bs → Highest (bs ++ b ∷ []) (record { joint = b.joint; brace = b.number; verdict = v })
passes bs b v e under = record { before = bs; here = b; behind = []; split = refl; stands = e; joint = refl; brace = refl; first = under; top = tt }

none_some : (b : Brace) (v : Verdict) → b.check ≡ None → b.check ≡ Some v → ⊥
none_some b v n s = let z : ◌≡◌ {A = ℕ} 0 1 = cc in omega arith

some_same : (b : Brace) (v w : Verdict) → b.check ≡ Some v → b.check ≡ Some w → w ≡ v
some_same b v w p q = cc

all_under : (bs : List Brace) (w : Worst) (v : Verdict) → Highest bs w → over v w.verdict ≡ true → AllByRecursion (Under v) bs
all_under bs w v s h =
    let front = All-weaker (Under w.verdict) (Under v) (λ b u x e. beyond_both (reach v) (reach w.verdict) (reach x) h (u x e)) s.before s.first in
    let here : Under v s.here = λ x e. subst (λ z. over v z ≡ true) (sym (some_same s.here w.verdict x s.stands e)) h in
    let back = All-weaker (NotOver w.verdict) (Under v) (λ b u x e. beyond_not (reach v) (reach w.verdict) (reach x) h (u x e)) s.behind s.top in
    subst (AllByRecursion (Under v)) (sym s.split) (All-append (Under v) s.before (s.here ∷ s.behind) front (here, back))

step_at : (bs : List Brace) (b : Brace) (a : Option Worst) (o : Option Verdict) → b.check ≡ o → BestOf bs a → BestOf (bs ++ b ∷ []) (with_verdict a b o)
step_at bs b None None e s = All-push NotChecked bs b s e
step_at bs b (Some w) None e s = stays bs b w s (λ v h. absurd (none_some b v e h))
step_at bs b None (Some v) e s = passes bs b v e (All-weaker NotChecked (Under v) (λ x n w h. absurd (none_some x w n h)) bs s)
step_at bs b (Some w) (Some v) e s =
    cond_both (over v w.verdict) _ _ (BestOf (bs ++ b ∷ []))
    (λ t. passes bs b v e (all_under bs w v s t))
    (λ t. stays bs b w s (λ x h. subst (λ z. over z w.verdict ≡ false) (sym (some_same b v x e h)) t))

all_steps : (bs rest : List Brace) (a : Option Worst) → BestOf bs a → BestOf (bs ++ rest) (fold with_brace a rest)
all_steps bs [] a s = subst (λ t. BestOf t a) (sym (append-nil bs)) s
all_steps bs (b ∷ rest) a s =
    subst (λ t. BestOf t (fold with_brace (with_brace a b) rest)) (append_assoc bs (b ∷ []) rest)
    (all_steps (bs ++ b ∷ []) rest (with_brace a b) (step_at bs b a b.check refl s))

best_of_fold : (bs : List Brace) → BestOf bs (fold with_brace None bs)
best_of_fold bs = all_steps [] bs None tt

pub answers : (bs : List Brace) (a : Option Worst) (r : Result Worst Refusal) → a ≡ fold with_brace None bs → r ≡ ok_or a Unchecked → WorstOf bs r
answers bs None r e h = subst (WorstOf bs) (sym h) (refl, subst (BestOf bs) (sym e) (best_of_fold bs))
answers bs (Some w) r e h = subst (WorstOf bs) (sym h) (subst (BestOf bs) (sym e) (best_of_fold bs))

none_checked : (bs : List Brace) → AllByRecursion NotChecked bs → is_some (find is_checked bs) ≡ false
none_checked [] a = refl
none_checked (b ∷ bs) a = ap is_some (cond-false (is_checked b) (Some b) (find is_checked bs) (ap is_some a.0)) ∙ none_checked bs a.1

one_checked : (front : List Brace) (b : Brace) (back : List Brace) (v : Verdict) → b.check ≡ Some v → is_some (find is_checked (front ++ b ∷ back)) ≡ true
one_checked [] b back v e = ap is_some (cond-true (is_checked b) (Some b) (find is_checked back) (ap is_some e))
one_checked (x ∷ front) b back v e =
    cond_both (is_checked x) (Some x) (find is_checked (front ++ b ∷ back)) (λ o. is_some o ≡ true) (λ _. refl) (λ _. one_checked front b back v e)

highest_checked : (bs : List Brace) (w : Worst) → Highest bs w → is_some (find is_checked bs) ≡ true
highest_checked bs w s = subst (λ t. is_some (find is_checked t) ≡ true) (sym s.split) (one_checked s.before s.here s.behind w.verdict s.stands)

pub names : (l : Ledger) (a : Option Worst) (r : Result Worst Refusal) → a ≡ fold with_brace None l.braces → r ≡ ok_or a Unchecked → Names l r
names l None r e h = subst (Names l) (sym h) (cond-false _ _ _ (none_checked l.braces (subst (BestOf l.braces) (sym e) (best_of_fold l.braces))), refl)
names l (Some w) r e h =
    let s : Highest l.braces w = subst (BestOf l.braces) (sym e) (best_of_fold l.braces) in
    subst (Names l) (sym h) (cond-true _ _ _ (highest_checked l.braces w s), s)
