-- Opening a book.
--
--     unusable_cause u    the number and the value of the refusal u
--     open_cause m        why no book is kept by an edition of the meaning m, if none is
--     Hindered m o        the obstacle o is that cause, or a want of memory though there is none
--     Opened mean e b     b is an empty book, kept by the edition e, which is usable
--     Closed mean e u     u hands the edition e back, with what hindered
--
-- Assumes nothing.
use Rattle.std.specs.Prelude.{◌≡◌, [], ◌∷◌, pos, Some, None, Option, nat_lt}
use Rattle.editions.specs.Meanings.{Meaning, Usable}
use Rattle.ledger.specs.Causes.{Cause, because}
use Rattle.ledger.specs.Ledger.{first_cause, empty, holding}
use Rattle.book.specs.declared.book.Book.{Book}
use Rattle.book.specs.declared.opening.Unusable.{Unusable}
use Rattle.book.specs.declared.opening.Unusable.TheVariants.{TooWide, TooLow}
use Rattle.book.specs.declared.opening.Obstacle.{Obstacle}
use Rattle.book.specs.declared.opening.Obstacle.TheVariants.{Unusable as NotUsable, Memory}
use Rattle.book.specs.declared.opening.Unopened.{Unopened}

abbrev pub unusable_cause : Unusable → Cause
unusable_cause (TooWide width) = because 1 (pos width)
unusable_cause (TooLow floor) = because 2 (pos floor)

abbrev pub open_cause : Meaning → Option Cause
open_cause m =
    first_cause (
    (nat_lt 700 m.width, because 1 (pos m.width)) ∷
    (nat_lt m.floor 10000, because 2 (pos m.floor)) ∷ [])
    None

abbrev pub Hindered : Meaning → Obstacle → Type 0
Hindered m (NotUsable u) = open_cause m ≡ Some (unusable_cause u)
Hindered m Memory = Usable m

pub record Opened {E : Type 0} (mean : E → Meaning) (e : E) (b : Book E) : Type 0 where
  pub edition : b.edition ≡ e
  pub ledger : holding b.tables ≡ empty
  pub usable : Usable (mean e)

pub record Closed {E : Type 0} (mean : E → Meaning) (e : E) (u : Unopened E) : Type 0 where
  pub edition : u.edition ≡ e
  pub why : Hindered (mean e) u.why
