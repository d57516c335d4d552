-- Where the first piece of a text ends.
use Rattle.std.proofs.Common.{◌≡◌, ℕ, zero, suc, ◌+◌, ◌-◌, ◌<◌, ◌≤◌, Bool, true, false, cond, eqb, leb, List, [], ◌∷◌, length, get_or, take, drop, sym, refl, ap, ◌∙◌, subst, ⊎_elim, add-one, arith, length-drop, eq-eqb, ne_eqb}
use Rattle.std.proofs.str.Laws.{order}
use Rattle.std.proofs.lemmas.List.{take_all, drop-drop, length-take-le}
use Rattle.std.proofs.lemmas.Bool.{cond-true, cond-false, cond_both, le-leb, lt-leb}
use Rattle.cards.specs.Pieces.{onto, pieces, ending, pieces_from}

-- no mark stands below n
abbrev pub Clear : ℕ → List ℕ → ℕ → Type 0
Clear mark bs n = (k : ℕ) → k < n → get_or bs k 0 ≡ mark → ⊥

skip : (mark : ℕ) (last : List (List ℕ)) (b : ℕ) (bs : List ℕ) → (b ≡ mark → ⊥) → pieces mark last (b ∷ bs) ≡ onto b (pieces mark last bs)
skip mark last b bs clr = ap (λ (t : Bool). cond t ([] ∷ pieces mark last bs) (onto b (pieces mark last bs))) (ne_eqb b mark clr)

pub cut : (mark : ℕ) (last : List (List ℕ)) (bs : List ℕ) (n : ℕ) → n < length bs → Clear mark bs n → get_or bs n 0 ≡ mark → pieces mark last bs ≡ take n bs ∷ pieces mark last (drop (n + 1) bs)
cut mark last [] n l clr e = absurd (omega arith)
cut mark last (b ∷ bs) zero l clr e = ap (λ (t : Bool). cond t ([] ∷ pieces mark last bs) (onto b (pieces mark last bs))) (eq-eqb b mark e)
cut mark last (b ∷ bs) (suc n) l clr e =
    skip mark last b bs (λ is. clr 0 (omega arith) is)
    ∙ ap (onto b) (cut mark last bs n (omega arith) (λ k h is. clr (suc k) (omega arith) is) e)
    ∙ rw (add-one, add-one)

pub uncut : (mark : ℕ) (bs : List ℕ) → Clear mark bs (length bs) → pieces mark ([] ∷ []) bs ≡ bs ∷ []
uncut mark [] clr = refl
uncut mark (b ∷ bs) clr =
    skip mark ([] ∷ []) b bs (λ is. clr 0 (omega arith) is) ∙ ap (onto b) (uncut mark bs (λ k h is. clr (suc k) (omega arith) is))

pub unended : (mark : ℕ) (bs : List ℕ) → 0 < length bs → Clear mark bs (length bs) → pieces mark [] bs ≡ bs ∷ []
unended mark [] l clr = absurd (omega arith)
unended mark (b ∷ []) l clr = skip mark [] b [] (λ is. clr 0 (omega arith) is)
unended mark (b ∷ c ∷ bs) l clr =
    skip mark [] b (c ∷ bs) (λ is. clr 0 (omega arith) is)
    ∙ ap (onto b) (unended mark (c ∷ bs) (omega arith) (λ k h is. clr (suc k) (omega arith) is))

pub front_again : (rest : List ℕ) (n : ℕ) → n ≤ length rest → take n rest ≡ take (length (take n rest)) rest
front_again rest n h = ap (λ (k : ℕ). take k rest) (sym (length-take-le n rest h))

-- what is left has no mark
unmarked : (mark : ℕ) (end : Bool) (bs : List ℕ) → (length bs ≡ 0 → end ≡ true) → Clear mark bs (length bs) → pieces mark (ending end) bs ≡ bs ∷ []
unmarked mark true bs some clr = uncut mark bs clr
unmarked mark false [] some clr = cc (some refl)
unmarked mark false (b ∷ bs) some clr = unended mark (b ∷ bs) (omega arith) clr

pub piece_step : (mark : ℕ) (end : Bool) (all : List ℕ) (at n : ℕ) (rest : List ℕ) → rest ≡ drop at all → at ≤ length all → (length rest ≡ 0 → end ≡ true) → n ≤ length rest → Clear mark rest n → (n < length rest → get_or rest n 0 ≡ mark)
    → pieces_from mark end all at ≡ take n rest ∷ pieces_from mark end all (at + (n + 1))
piece_step mark end all at n rest is here some in_rest clr found =
    let long : length rest ≡ length all - at = ap length is ∙ length-drop at all in
    let begin : pieces_from mark end all at ≡ pieces mark (ending end) rest = cond-true _ _ _ (le-leb at (length all) here) ∙ ap (pieces mark (ending end)) (sym is) in
    ⊎_elim
    (λ lt.
    let next : drop (n + 1) rest ≡ drop (at + (n + 1)) all = ap (λ (x : List ℕ). drop (n + 1) x) is ∙ drop-drop (n + 1) at all ∙ ap (λ (k : ℕ). drop k all) (omega arith) in
    let more : pieces_from mark end all (at + (n + 1)) ≡ pieces mark (ending end) (drop (at + (n + 1)) all) = cond-true _ _ _ (le-leb (at + (n + 1)) (length all) (omega arith)) in
    begin ∙ cut mark (ending end) rest n lt clr (found lt) ∙ ap (λ (x : List ℕ). take n rest ∷ pieces mark (ending end) x) next ∙ ap (λ (x : List (List ℕ)). take n rest ∷ x) (sym more))
    (λ ge.
    let full : length rest ≡ n = omega arith in
    let none : pieces_from mark end all (at + (n + 1)) ≡ [] = cond-false _ _ _ (lt-leb (at + (n + 1)) (length all) (omega arith)) in
    begin ∙ unmarked mark end rest some (subst (Clear mark rest) (sym full) clr) ∙ (λ i. sym (take_all n rest ge) i ∷ sym none i))
    (order n (length rest))

-- there is at most one piece more than bytes
onto_few : (b : ℕ) (ps : List (List ℕ)) → length (onto b ps) ≤ length ps + 1
onto_few b [] = omega arith
onto_few b (p ∷ ps) = omega arith

pub few : (mark : ℕ) (end : Bool) (bs : List ℕ) → length (pieces mark (ending end) bs) ≤ length bs + 1
few mark true [] = omega arith
few mark false [] = omega arith
few mark end (b ∷ bs) =
    let more = few mark end bs in
    cond_both (eqb b mark) ([] ∷ pieces mark (ending end) bs) (onto b (pieces mark (ending end) bs)) (λ ps. length ps ≤ length (b ∷ bs) + 1) (λ _. omega (arith, more)) (λ _. omega (arith, more, onto_few b (pieces mark (ending end) bs)))

pub few_from : (mark : ℕ) (end : Bool) (all : List ℕ) (at : ℕ) → length (pieces_from mark end all at) ≤ length all + 1
few_from mark end all at =
    cond_both (leb at (length all)) (pieces mark (ending end) (drop at all)) [] (λ ps. length ps ≤ length all + 1) (λ _. omega (arith, few mark end (drop at all), length-drop at all)) (λ _. omega arith)
