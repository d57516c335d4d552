-- What a session makes of a card.
--
--     desk_with o           the desk of the book o, or the closed one
--     desk_of s             the desk of the session s
--     is_desk_open d        the desk is open
--     Opening n r           a book by the pile that the numbers n name: refused by the first that names nothing, or empty
--     Opens n d r           a pile's card on a closed desk: refused by the first number that names nothing, or the desk is open by that pile, with
--                           an empty ledger
--     Turns p show S r d    a call of the book on the pile p: S says what it answers and leaves, and show what is told of its answer
--     Performs d c r e      the card c on the desk d is answered by r and leaves e; a card out of place is refused as one without a word
--     Takes d line r e      the line is answered by r: the first fault of what is no card, or what the card does
--     Stopping r P          P holds of the answer r, unless memory was wanted
--
-- Assumes nothing.
use Rattle.std.specs.Prelude.{◌≡◌, ℕ, Bool, true, false, List, Some, None, Ok, Err, Option, Result}
use Rattle.layers.specs.declared.pile.Pile.{Pile}
use Rattle.layers.specs.declared.pile_fault.PileFault.{PileFault}
use Rattle.layers.specs.Piles.{fault_of_pile, PileNamed}
use Rattle.layers.specs.PileMeanings.{pile_meaning}
use Rattle.ledger.specs.Ledger.{Ledger, empty, Enters, Adds, Loads}
use Rattle.ledger.specs.declared.refusal.Refusal.{Refusal}
use Rattle.book.specs.declared.book.Book.{Book}
use Rattle.book.specs.Steps.{ledger_of}
use Rattle.book.specs.Checks.{Checks}
use Rattle.cards.specs.declared.card.PileNumbers.{PileNumbers}
use Rattle.cards.specs.Cards.{card_of}
use Rattle.cards.specs.declared.card.CardFault.{CardFault}
use Rattle.cards.specs.declared.card.CardFault.TheVariants.{NoWord}
use Rattle.cards.specs.declared.card.Card.{Card}
use Rattle.cards.specs.declared.card.Card.TheVariants as card
use Rattle.decks.specs.declared.session.Session.{Session}
use Rattle.decks.specs.declared.fault.Fault.{Fault}
use Rattle.decks.specs.declared.fault.Fault.TheVariants as fault
use Rattle.decks.specs.declared.fault.Stop.{Stop}
use Rattle.decks.specs.declared.fault.Stop.TheVariants.{Refused, Memory}
use Rattle.decks.specs.declared.output.CheckLine.{CheckLine}
use Rattle.decks.specs.Desks.{Desk, closed, kept_by}

abbrev pub desk_with : Option (Book Pile) → Desk
desk_with None = closed
desk_with (Some b) = kept_by b.edition (ledger_of b)

abbrev pub desk_of : Session → Desk
desk_of s = desk_with s.book

abbrev pub is_desk_open : Desk → Bool
is_desk_open closed = false
is_desk_open (kept_by p l) = true

abbrev pub Opens : PileNumbers → Desk → Result (Option CheckLine) Fault → Desk → Type 0
Opens n d (Ok x) e = (x ≡ None) × (fault_of_pile n.edition n.divisor n.can ≡ None) × (p : Pile) × PileNamed p n.edition n.divisor n.can × (e ≡ kept_by p empty)
Opens n d (Err f) e = (x : PileFault) × (fault_of_pile n.edition n.divisor n.can ≡ Some x) × (f ≡ fault.Pile x) × (e ≡ d)

-- A want of memory promises nothing.
abbrev pub Opening : PileNumbers → Result (Book Pile) Stop → Type 0
Opening n (Ok b) = (fault_of_pile n.edition n.divisor n.can ≡ None) × PileNamed b.edition n.edition n.divisor n.can × (ledger_of b ≡ empty)
Opening n (Err (Refused f)) = (x : PileFault) × (fault_of_pile n.edition n.divisor n.can ≡ Some x) × (f ≡ fault.Pile x)
Opening n (Err Memory) = Unit {0}

abbrev pub told : {T : Type 0} → (T → Option CheckLine) → Result T Refusal → Result (Option CheckLine) Fault
told show (Ok x) = Ok (show x)
told show (Err e) = Err (fault.Book e)

abbrev pub Turns : {T : Type 0} → Pile → (T → Option CheckLine) → (Ledger → Result T Refusal → Type 0) → Result (Option CheckLine) Fault → Desk → Type 0
Turns {T} p show S r d = (k : Ledger) × (q : Result T Refusal) × S k q × (r ≡ told show q) × (d ≡ kept_by p k)

abbrev pub OutOfPlace : Desk → Result (Option CheckLine) Fault → Desk → Type 0
OutOfPlace d r e = (r ≡ Err (fault.Card NoWord)) × (e ≡ d)

abbrev pub quiet : Unit {0} → Option CheckLine
quiet x = None

abbrev pub Performs : Desk → Card → Result (Option CheckLine) Fault → Desk → Type 0
Performs closed (card.Pile n) r e = Opens n closed r e
Performs closed (card.Joint j f) r e = OutOfPlace closed r e
Performs closed (card.Brace j b f) r e = OutOfPlace closed r e
Performs closed (card.Force j b f) r e = OutOfPlace closed r e
Performs closed (card.Check j b) r e = OutOfPlace closed r e
Performs (kept_by p l) (card.Pile n) r e = OutOfPlace (kept_by p l) r e
Performs (kept_by p l) (card.Joint j f) r e = Turns p quiet (λ k q. Enters j f l k q) r e
Performs (kept_by p l) (card.Brace j b f) r e = Turns p quiet (λ k q. Adds j b f l k q) r e
Performs (kept_by p l) (card.Force j b f) r e = Turns p quiet (λ k q. Loads j b f l k q) r e
Performs (kept_by p l) (card.Check j b) r e = Turns p (λ v. Some (record { joint = j; brace = b; verdict = v })) (λ k q. Checks (pile_meaning p) j b l k q) r e

abbrev pub on_card : Desk → Result Card CardFault → Result (Option CheckLine) Fault → Desk → Type 0
on_card d (Err f) r e = (r ≡ Err (fault.Card f)) × (e ≡ d)
on_card d (Ok c) r e = Performs d c r e

abbrev pub Takes : Desk → List ℕ → Result (Option CheckLine) Fault → Desk → Type 0
Takes d line r e = on_card d (card_of (is_desk_open d) line) r e

-- A fault is the answer; a want of memory promises nothing.
abbrev pub Stopping : Result (Option CheckLine) Stop → (Result (Option CheckLine) Fault → Type 0) → Type 0
Stopping (Ok x) P = P (Ok x)
Stopping (Err (Refused f)) P = P (Err f)
Stopping (Err Memory) P = Unit {0}
