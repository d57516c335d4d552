-- The numbers and values of the refusals of a call on the ledger.
--
--     Cause            a number and a value
--     place_field p    the field of a joint's or a brace's number on a card, the word being 1
--     room_limit r     how many may stand there
--     cause e          the number and the value of the refusal e; the value is 0 where there is nothing to tell
--
-- Assumes nothing.
use Rattle.std.specs.Prelude.{ℕ, ℤ, pos}
use Rattle.records.specs.Kinds.{number}
use Rattle.records.specs.Refusals.{figure_number, figure_field, misfit_number, misfit_value}
use Rattle.ledger.specs.declared.refusal.Place.{Place}
use Rattle.ledger.specs.declared.refusal.Place.TheVariants.{Joint, Brace}
use Rattle.ledger.specs.declared.refusal.Room.{Room}
use Rattle.ledger.specs.declared.refusal.Room.TheVariants.{Joints, Braces, BracesAtJoint}
use Rattle.ledger.specs.declared.refusal.Refusal.{Refusal}
use Rattle.ledger.specs.declared.refusal.Refusal.TheVariants.{NumberOutside, NumberInUse, Unknown, Full, Outside, NoBrace, NotLoaded, Spent, Unchecked}

pub record Cause : Type 0 where
  pub number : ℕ
  pub value : ℤ

abbrev pub because : ℕ → ℤ → Cause
because n v = record { number = n; value = v }

abbrev pub place_field : Place → ℤ
place_field Joint = pos 2
place_field Brace = pos 3

abbrev pub room_limit : Room → ℤ
room_limit Joints = pos 16
room_limit Braces = pos 96
room_limit BracesAtJoint = pos 8

abbrev pub cause : Refusal → Cause
cause (NumberOutside p) = because 3 (place_field p)
cause (NumberInUse p) = because 4 (place_field p)
cause (Unknown p) = because 5 (place_field p)
cause (Full r) = because 6 (room_limit r)
cause (Outside x) = because (figure_number x) (pos (figure_field x))
cause (NoBrace m) = because (misfit_number m) (misfit_value m)
cause NotLoaded = because 11 (pos 0)
cause (Spent s) = because 12 (pos (number s.kind))
cause Unchecked = because 13 (pos 0)
