-- What each call's tests come to, over plain variables.
use Rattle.std.proofs.Common.{◌≡◌, ℕ, true, false, not, leb, [], ◌∷◌, length, get_or, set, ℤ, pos, is_some, IsErrAnd, Some, None, Ok, Err, count_by, Option, Result, w64, SFits, to_z, of_z, sym, refl, ap, ◌∙◌}
use Rattle.std.proofs.lemmas.Bool.{cond-true, cond-false}
use Rattle.std.proofs.lemmas.Int.{to_z-of_z}
use Rattle.std.specs.Option.{ok_or}
use Rattle.records.specs.Limits.{first_figure_outside, chord_limits, brace_fault}
use Rattle.records.specs.declared.limits.ChordFigures.{ChordFigures}
use Rattle.records.specs.declared.limits.BraceFigures.{BraceFigures}
use Rattle.records.specs.declared.record.Chord.{Chord}
use Rattle.ledger.specs.declared.refusal.Refusal.{Refusal}
use Rattle.ledger.specs.declared.refusal.Refusal.TheVariants.{NumberOutside, Unknown}
use Rattle.ledger.specs.declared.refusal.Place.TheVariants.{Joint as PlaceOfJoint, Brace as PlaceOfBrace}
use Rattle.verdicts.specs.Forces.{force_limits}
use Rattle.verdicts.specs.declared.forces.ForceFigures.{ForceFigures}
use Rattle.ledger.specs.declared.entries.Brace.{Brace}
use Rattle.ledger.specs.Causes.{Cause, because, cause}
use Rattle.ledger.specs.Places.{Found, Spotted, At, Stood}
use Rattle.ledger.specs.Ledger.{find, Ledger, Does, is_joint, is_brace, at_joint, number_from, numbers_from, numbers_at, figure_cause, misfit_cause, first_cause, enter_at, enter_cause, brace_cause, add_at, add_cause, standing, standing_at, Amended, load_at, load_cause, force_cause, note_at, note_cause}

-- A refusal that came through a question mark.
pub passed : {T : Type 0} (why : Option Cause) (then : Type 0) (l : Ledger) (e : Refusal) (r : Result T Refusal) → IsErrAnd r (λ x. x ≡ e) → why ≡ Some (cause e) → Does why then l l r
passed why then l e (Ok x) h w = absurd h
passed why then l e (Err x) h w = (w ∙ ap (λ z. Some (cause z)) (sym h), refl)

module _ (j : ℤ) (f : ChordFigures) (l : Ledger) (n : ℕ) (number : number_from j ≡ Some n) (free : is_some (find (is_joint n) l.joints) ≡ false) (room : leb 16 (length l.joints) ≡ false) where
  pub enter_limits : enter_cause j f l ≡ figure_cause (first_figure_outside (chord_limits f))
  enter_limits = ap (λ o. enter_at o f l) number ∙ cond-false _ _ _ free ∙ cond-false _ _ _ room

-- Two numbers that are both within their limits.
pub numbered : (j b : ℤ) (n m : ℕ) → numbers_from j b ≡ Ok (n, m) → (number_from j ≡ Some n) × (number_from b ≡ Some m)
numbered j b n m e = go (number_from j) (number_from b) e
  where
    go : (x y : Option ℕ) → numbers_at x y ≡ Ok (n, m) → (x ≡ Some n) × (y ≡ Some m)
    go None y e = cc
    go (Some x) None e = cc
    go (Some x) (Some y) e = let same : (x, y) ≡ (n, m) = cc in (ap (λ (t : ℕ × ℕ). Some t.0) same, ap (λ (t : ℕ × ℕ). Some t.1) same)

pub add_outside : (j b : ℤ) (f : BraceFigures) (l : Ledger) (e : Refusal) → numbers_from j b ≡ Err e → add_cause j b f l ≡ Some (cause e)
add_outside j b f l e h = go (number_from j) (number_from b) h
  where
    go : (x y : Option ℕ) → numbers_at x y ≡ Err e → add_at x y f l ≡ Some (cause e)
    go None y h = let same : NumberOutside PlaceOfJoint ≡ e = cc in ap (λ z. Some (cause z)) same
    go (Some x) None h = let same : NumberOutside PlaceOfBrace ≡ e = cc in ap (λ z. Some (cause z)) same
    go (Some x) (Some y) h = cc

-- The numbers of a brace, both within their limits, in its table of causes.
add_told : (j b : ℤ) (f : BraceFigures) (l : Ledger) (n m : ℕ) → numbers_from j b ≡ Ok (n, m) → add_cause j b f l ≡ add_at (Some n) (Some m) f l
add_told j b f l n m h = ap (λ o. add_at o (number_from b) f l) (numbered j b n m h).0 ∙ ap (λ o. add_at (Some n) o f l) (numbered j b n m h).1

pub add_taken : (j b : ℤ) (f : BraceFigures) (l : Ledger) (n m : ℕ) → numbers_from j b ≡ Ok (n, m) → is_some (find (is_brace n m) l.braces) ≡ true → add_cause j b f l ≡ Some (because 4 (pos 3))
add_taken j b f l n m h t = add_told j b f l n m h ∙ cond-true _ _ _ t

module _ (j b : ℤ) (f : BraceFigures) (l : Ledger) (n m : ℕ) (numbers : numbers_from j b ≡ Ok (n, m)) (free : is_some (find (is_brace n m) l.braces) ≡ false) where
  add_past : add_cause j b f l ≡ first_cause ((not (is_some (find (is_joint n) l.joints)), because 5 (pos 2)) ∷ (leb 96 (length l.braces), because 6 (pos 96)) ∷ (leb 8 (count_by (at_joint n) l.braces), because 6 (pos 8)) ∷ []) (brace_cause (find (is_joint n) l.joints) f)
  add_past = add_told j b f l n m numbers ∙ cond-false _ _ _ free

  pub add_nowhere : find (is_joint n) l.joints ≡ None → add_cause j b f l ≡ Some (because 5 (pos 2))
  add_nowhere none = add_past ∙ cond-true _ _ _ (ap (λ o. not (is_some o)) none)

  module _ (i : ℕ) (there : Found (is_joint n) l.joints i) where
    add_here : add_cause j b f l ≡ first_cause ((leb 96 (length l.braces), because 6 (pos 96)) ∷ (leb 8 (count_by (at_joint n) l.braces), because 6 (pos 8)) ∷ []) (brace_cause (find (is_joint n) l.joints) f)
    add_here = add_past ∙ cond-false _ _ _ (ap (λ o. not (is_some o)) there.there)

    pub add_full : leb 96 (length l.braces) ≡ true → add_cause j b f l ≡ Some (because 6 (pos 96))
    add_full h = add_here ∙ cond-true _ _ _ h

    pub add_crowded : leb 96 (length l.braces) ≡ false → leb 8 (count_by (at_joint n) l.braces) ≡ true → add_cause j b f l ≡ Some (because 6 (pos 8))
    add_crowded h k = add_here ∙ cond-false _ _ _ h ∙ cond-true _ _ _ k

    pub add_limits : leb 96 (length l.braces) ≡ false → leb 8 (count_by (at_joint n) l.braces) ≡ false → (c : Chord) → c ≡ there.held.chord → add_cause j b f l ≡ misfit_cause (brace_fault c f)
    add_limits h k c e = add_here ∙ cond-false _ _ _ h ∙ cond-false _ _ _ k ∙ ap (λ o. brace_cause o f) there.there ∙ ap (λ z. misfit_cause (brace_fault z f)) (sym e)

-- Where one of the numbers is none, no brace stands.
pub standing_outside : (j b : ℤ) (l : Ledger) (e : Refusal) → numbers_from j b ≡ Err e → Stood j b l (Err e)
unfolding standing
standing_outside j b l e h = go (number_from j) (number_from b) h
  where
    go : (x y : Option ℕ) → numbers_at x y ≡ Err e → standing_at x y l ≡ Err (cause e)
    go None y h = let same : NumberOutside PlaceOfJoint ≡ e = cc in ap (λ z. Err (cause z)) same
    go (Some x) None h = let same : NumberOutside PlaceOfBrace ≡ e = cc in ap (λ z. Err (cause z)) same
    go (Some x) (Some y) h = cc

standing_told : (j b : ℤ) (l : Ledger) (n m : ℕ) → numbers_from j b ≡ Ok (n, m) → standing j b l ≡ standing_at (Some n) (Some m) l
unfolding standing
standing_told j b l n m h = ap (λ o. standing_at o (number_from b) l) (numbered j b n m h).0 ∙ ap (λ o. standing_at (Some n) o l) (numbered j b n m h).1

-- The place of the brace of these numbers, at a joint that stands.
pub stood : (j b : ℤ) (l : Ledger) (n m : ℕ) (r : Result ℕ Refusal) → numbers_from j b ≡ Ok (n, m) → is_some (find (is_joint n) l.joints) ≡ true → Spotted (is_brace n m) l.braces (Unknown PlaceOfBrace) r → Stood j b l r
unfolding standing
stood j b l n m (Ok i) numbers there found = record {
  joint = n;
  number = m;
  joint_numbered = (numbered j b n m numbers).0;
  numbered = (numbered j b n m numbers).1;
  found = found;
  stands = standing_told j b l n m numbers ∙ cond-true _ _ _ there ∙ ap (λ o. ok_or o (because 5 (pos 3))) found.there;
}
stood j b l n m (Err e) numbers there (none, same) =
    standing_told j b l n m numbers ∙ cond-true _ _ _ there ∙ ap (λ o. ok_or o (because 5 (pos 3))) none ∙ ap (λ x. Err (cause x)) (sym same)

-- The same of numbers that a call passed on as they came.
pub stood_at : (j b : ℤ) (l : Ledger) (i : ℕ) → SFits w64 j → SFits w64 b → At (to_z w64 (of_z w64 j)) (to_z w64 (of_z w64 b)) l i → At j b l i
stood_at j b l i p q at = simp to_z-of_z at at

-- A write at that place.
pub amended : (j b : ℤ) (f : Brace → Brace) (l m : Ledger) (i : ℕ) (y z : Brace) → At j b l i → y ≡ get_or l.braces i y → z ≡ f y → m.joints ≡ l.joints → m.braces ≡ set l.braces i z → Amended j b f l m
amended j b f l m i y z at here changed joints braces = record {
  joint = at.joint;
  number = at.number;
  joint_numbered = at.joint_numbered;
  numbered = at.numbered;
  joints = joints;
  braces = braces ∙ ap (set l.braces i) (changed ∙ ap f (here ∙ at.found.here y)) ∙ sym (at.found.writes f);
}

pub load_limits : (j b : ℤ) (f : ForceFigures) (l : Ledger) (i : ℕ) → At j b l i → load_cause j b f l ≡ figure_cause (first_figure_outside (force_limits f))
load_limits j b f l i at = ap (λ r. load_at r f) at.stands

pub note_limits : (j b : ℤ) (l : Ledger) (i : ℕ) (at : At j b l i) → note_cause j b l ≡ force_cause at.found.held.force
note_limits j b l i at = ap note_at at.stands
