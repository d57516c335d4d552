-- The ledger: what stands in a book, and what each call does to it.
--
--     Ledger                     joints in order of entering, braces in order of adding
--     empty                      no joints and no braces
--     holding t                  what the tables t hold
--     number_from z              z as a joint's or a brace's number, if it is from 1 to 999
--     numbers_at n m             the two numbers, where both are; else the refusal of the first that is none
--     numbers_from j b           both, of a joint and of a brace, or the first that is none
--     find p xs                  the first of xs that passes p, as the library has it
--     amend p f xs               the first that passes is changed by f
--     without p xs               the first that passes is taken out
--     is_joint, is_brace         the joint with this number, the brace with this number at this joint
--     at_joint, elsewhere        a brace at this joint, a brace at another
--     first_cause ts x           the cause of the first test of ts that holds; else x
--     Does why then l m r        r is what a call answers: a refusal by the cause why, which leaves the ledger as it was, or, with no cause, then
--     DoesWith why then l m r    the same, where `then` speaks of the answer
--     enter_cause, add_cause, load_cause, note_cause, withdraw_cause    why a call is refused, if it is
--     Entered, Added, Loaded, Noted, Withdrawn    what stands after a call that is not
--     Enters, Adds, Loads, Notes, Withdraws    both: what the call answers, and what then stands
--     standing j b l             the brace of these numbers, or why there is none
--     Amended j b f l m          m is l with that brace changed by f
--     brace_with_force n b       b with the force n, and with no check
--     brace_with_check v b       b with the check v
--     Told j b l r               r is the record and the force of that brace, or why there are none
--
-- Assumes nothing.
use Rattle.std.specs.Prelude.{◌≡◌, ℕ, Bool, cond, not, ◌&&◌, List, [], ◌∷◌, ◌++◌, length, ℤ, pos, is_some, Some, None, Ok, Err, vec_items, count_by, filter, Option, Result, ◌==◌, int_le, nat_le, unsigned_abs}
use Rattle.std.specs.Option.{ok_or}
pub use Rattle.std.specs.List.{find}
use Rattle.records.specs.Limits.{first_figure_outside, chord_limits, brace_fault, IsChord, IsBrace}
use Rattle.records.specs.declared.limits.Figure.{Figure}
use Rattle.records.specs.declared.limits.Misfit.{Misfit}
use Rattle.records.specs.declared.limits.ChordFigures.{ChordFigures}
use Rattle.records.specs.declared.limits.BraceFigures.{BraceFigures}
use Rattle.records.specs.declared.record.Chord.{Chord}
use Rattle.records.specs.declared.record.BraceRecord.{BraceRecord}
use Rattle.verdicts.specs.Forces.{force_limits, IsForce}
use Rattle.verdicts.specs.declared.force.Force.{Force}
use Rattle.verdicts.specs.declared.forces.ForceFigures.{ForceFigures}
use Rattle.verdicts.specs.declared.verdict.Verdict.{Verdict}
use Rattle.ledger.specs.declared.entries.Joint.{Joint}
use Rattle.ledger.specs.declared.entries.Brace.{Brace}
use Rattle.ledger.specs.declared.refusal.Refusal.{Refusal}
use Rattle.ledger.specs.declared.refusal.Refusal.TheVariants.{NumberOutside, Outside, NoBrace}
use Rattle.ledger.specs.declared.refusal.Place.TheVariants.{Joint as PlaceOfJoint, Brace as PlaceOfBrace}
use Rattle.ledger.specs.declared.tables.Tables.{Tables}
use Rattle.ledger.specs.Causes.{Cause, because, cause}

pub record Ledger : Type 0 where
  pub joints : List Joint
  pub braces : List Brace

abbrev pub empty : Ledger
empty = record { joints = []; braces = [] }

abbrev pub holding : Tables → Ledger
holding t = record { joints = vec_items t.joints; braces = vec_items t.braces }

-- ---- lists
abbrev pub amend : {X : Type 0} → (X → Bool) → (X → X) → List X → List X
amend p f [] = []
amend p f (x ∷ xs) = cond (p x) (f x ∷ xs) (x ∷ amend p f xs)

abbrev pub without : {X : Type 0} → (X → Bool) → List X → List X
without p [] = []
without p (x ∷ xs) = cond (p x) xs (x ∷ without p xs)

-- ---- numbers
abbrev pub number_from : ℤ → Option ℕ
number_from z = cond (int_le (pos 1) z && int_le z (pos 999)) (Some (unsigned_abs z)) None

abbrev pub numbers_at : Option ℕ → Option ℕ → Result (ℕ × ℕ) Refusal
numbers_at None m = Err (NumberOutside PlaceOfJoint)
numbers_at (Some n) None = Err (NumberOutside PlaceOfBrace)
numbers_at (Some n) (Some m) = Ok (n, m)

abbrev pub numbers_from : ℤ → ℤ → Result (ℕ × ℕ) Refusal
numbers_from j b = numbers_at (number_from j) (number_from b)

abbrev pub is_joint : ℕ → Joint → Bool
is_joint n j = j.number == n

abbrev pub at_joint : ℕ → Brace → Bool
at_joint n b = b.joint == n

abbrev pub is_brace : ℕ → ℕ → Brace → Bool
is_brace n m b = at_joint n b && b.number == m

abbrev pub elsewhere : ℕ → Brace → Bool
elsewhere n b = not (at_joint n b)

-- ---- causes
abbrev pub first_cause : List (Bool × Cause) → Option Cause → Option Cause
first_cause [] x = x
first_cause (t ∷ ts) x = cond t.0 (Some t.1) (first_cause ts x)

abbrev pub figure_cause : Option Figure → Option Cause
figure_cause None = None
figure_cause (Some x) = Some (cause (Outside x))

abbrev pub misfit_cause : Option Misfit → Option Cause
misfit_cause None = None
misfit_cause (Some m) = Some (cause (NoBrace m))

-- ---- answers
abbrev pub Does : {T : Type 0} → Option Cause → Type 0 → Ledger → Ledger → Result T Refusal → Type 0
Does why then l m (Ok x) = (why ≡ None) × then
Does why then l m (Err e) = (why ≡ Some (cause e)) × (m ≡ l)

abbrev pub DoesWith : {T : Type 0} → Option Cause → (T → Type 0) → Ledger → Ledger → Result T Refusal → Type 0
DoesWith why then l m (Ok x) = (why ≡ None) × then x
DoesWith why then l m (Err e) = (why ≡ Some (cause e)) × (m ≡ l)

-- ---- enter
abbrev pub enter_at : Option ℕ → ChordFigures → Ledger → Option Cause
enter_at None f l = Some (because 3 (pos 2))
enter_at (Some n) f l =
    first_cause (
    (is_some (find (is_joint n) l.joints), because 4 (pos 2)) ∷
    (nat_le 16 (length l.joints), because 6 (pos 16)) ∷ [])
    (figure_cause (first_figure_outside (chord_limits f)))

abbrev pub enter_cause : ℤ → ChordFigures → Ledger → Option Cause
enter_cause j f l = enter_at (number_from j) f l

-- The chord stands last, under its number.
pub record Entered (j : ℤ) (f : ChordFigures) (l m : Ledger) : Type 0 where
  pub number : ℕ
  pub chord : Chord
  pub numbered : number_from j ≡ Some number
  pub is : IsChord chord f
  pub joints : m.joints ≡ l.joints ++ (record { number = number; chord = chord }) ∷ []
  pub braces : m.braces ≡ l.braces

abbrev pub Enters : ℤ → ChordFigures → Ledger → Ledger → Result (Unit {0}) Refusal → Type 0
Enters j f l m r = Does (enter_cause j f l) (Entered j f l m) l m r

-- ---- add
abbrev pub brace_cause : Option Joint → BraceFigures → Option Cause
brace_cause None f = None
brace_cause (Some j) f = misfit_cause (brace_fault j.chord f)

abbrev pub add_at : Option ℕ → Option ℕ → BraceFigures → Ledger → Option Cause
add_at None m f l = Some (because 3 (pos 2))
add_at (Some n) None f l = Some (because 3 (pos 3))
add_at (Some n) (Some m) f l =
    first_cause (
    (is_some (find (is_brace n m) l.braces), because 4 (pos 3)) ∷
    (not (is_some (find (is_joint n) l.joints)), because 5 (pos 2)) ∷
    (nat_le 96 (length l.braces), because 6 (pos 96)) ∷
    (nat_le 8 (count_by (at_joint n) l.braces), because 6 (pos 8)) ∷ [])
    (brace_cause (find (is_joint n) l.joints) f)

abbrev pub add_cause : ℤ → ℤ → BraceFigures → Ledger → Option Cause
add_cause j b f l = add_at (number_from j) (number_from b) f l

-- The brace stands last, at the chord of its joint, with no force and no check.
pub record Added (j b : ℤ) (f : BraceFigures) (l m : Ledger) : Type 0 where
  pub joint : ℕ
  pub number : ℕ
  pub stands : Joint
  pub figures : BraceRecord
  pub joint_numbered : number_from j ≡ Some joint
  pub numbered : number_from b ≡ Some number
  pub at : find (is_joint joint) l.joints ≡ Some stands
  pub is : IsBrace figures stands.chord f
  pub joints : m.joints ≡ l.joints
  pub braces : m.braces ≡ l.braces ++ (record { joint = joint; number = number; figures = figures; force = None; check = None }) ∷ []

abbrev pub Adds : ℤ → ℤ → BraceFigures → Ledger → Ledger → Result (Unit {0}) Refusal → Type 0
Adds j b f l m r = Does (add_cause j b f l) (Added j b f l m) l m r

-- ---- a brace that a call speaks of
abbrev pub standing_at : Option ℕ → Option ℕ → Ledger → Result Brace Cause
standing_at None m l = Err (because 3 (pos 2))
standing_at (Some n) None l = Err (because 3 (pos 3))
standing_at (Some n) (Some m) l =
    cond (is_some (find (is_joint n) l.joints)) (ok_or (find (is_brace n m) l.braces) (because 5 (pos 3))) (Err (because 5 (pos 2)))

unfoldable pub standing : ℤ → ℤ → Ledger → Result Brace Cause
standing j b l = standing_at (number_from j) (number_from b) l

-- Only the first brace with these numbers is changed.
pub record Amended (j b : ℤ) (f : Brace → Brace) (l m : Ledger) : Type 0 where
  pub joint : ℕ
  pub number : ℕ
  pub joint_numbered : number_from j ≡ Some joint
  pub numbered : number_from b ≡ Some number
  pub joints : m.joints ≡ l.joints
  pub braces : m.braces ≡ amend (is_brace joint number) f l.braces

-- ---- load
abbrev pub load_at : Result Brace Cause → ForceFigures → Option Cause
load_at (Err c) f = Some c
load_at (Ok b) f = figure_cause (first_figure_outside (force_limits f))

abbrev pub load_cause : ℤ → ℤ → ForceFigures → Ledger → Option Cause
load_cause j b f l = load_at (standing j b l) f

-- A force voids the check.
abbrev pub brace_with_force : Force → Brace → Brace
brace_with_force n b = record { joint = b.joint; number = b.number; figures = b.figures; force = Some n; check = None }

pub record Loaded (j b : ℤ) (f : ForceFigures) (l m : Ledger) : Type 0 where
  pub force : Force
  pub is : IsForce force f
  pub amended : Amended j b (brace_with_force force) l m

abbrev pub Loads : ℤ → ℤ → ForceFigures → Ledger → Ledger → Result (Unit {0}) Refusal → Type 0
Loads j b f l m r = Does (load_cause j b f l) (Loaded j b f l m) l m r

-- ---- a check and its answer
abbrev pub force_cause : Option Force → Option Cause
force_cause None = Some (because 11 (pos 0))
force_cause (Some n) = None

abbrev pub note_at : Result Brace Cause → Option Cause
note_at (Err c) = Some c
note_at (Ok b) = force_cause b.force

abbrev pub note_cause : ℤ → ℤ → Ledger → Option Cause
note_cause j b l = note_at (standing j b l)

-- The brace and the force that a check looks at.
abbrev pub Told : ℤ → ℤ → Ledger → Result (BraceRecord × Force) Refusal → Type 0
Told j b l (Err e) = note_cause j b l ≡ Some (cause e)
Told j b l (Ok t) = (held : Brace) × (standing j b l ≡ Ok held) × (held.figures ≡ t.0) × (held.force ≡ Some t.1)

abbrev pub brace_with_check : Verdict → Brace → Brace
brace_with_check v b = record { joint = b.joint; number = b.number; figures = b.figures; force = b.force; check = Some v }

abbrev pub Noted : ℤ → ℤ → Verdict → Ledger → Ledger → Type 0
Noted j b v l m = Amended j b (brace_with_check v) l m

abbrev pub Notes : ℤ → ℤ → Verdict → Ledger → Ledger → Result (Unit {0}) Refusal → Type 0
Notes j b v l m r = Does (note_cause j b l) (Noted j b v l m) l m r

-- ---- withdraw
abbrev pub withdraw_at : Option ℕ → Ledger → Option Cause
withdraw_at None l = Some (because 3 (pos 2))
withdraw_at (Some n) l = cond (is_some (find (is_joint n) l.joints)) None (Some (because 5 (pos 2)))

abbrev pub withdraw_cause : ℤ → Ledger → Option Cause
withdraw_cause j l = withdraw_at (number_from j) l

-- The joint goes with its braces; the others keep their order.
pub record Withdrawn (j : ℤ) (l m : Ledger) : Type 0 where
  pub number : ℕ
  pub numbered : number_from j ≡ Some number
  pub joints : m.joints ≡ without (is_joint number) l.joints
  pub braces : m.braces ≡ filter (elsewhere number) l.braces

abbrev pub Withdraws : ℤ → Ledger → Ledger → Result (Unit {0}) Refusal → Type 0
Withdraws j l m r = Does (withdraw_cause j l) (Withdrawn j l m) l m r
