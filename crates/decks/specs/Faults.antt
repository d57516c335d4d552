-- The numbers and values of a line's faults.
--
--     card_cause f     of what is no card, as the card's faults have them
--     fault_cause f    of any fault of a line: a card's, a pile's and a book's are taken over whole
--
-- Assumes nothing.
use Rattle.std.specs.Prelude.{pos}
use Rattle.cards.specs.declared.card.CardFault.{CardFault}
use Rattle.cards.specs.Faults.{card_fault_number, card_fault_value}
use Rattle.layers.specs.PileRefusals.{pile_number, pile_field}
use Rattle.ledger.specs.Causes.{Cause, because, cause}
use Rattle.decks.specs.declared.fault.Fault.{Fault}
use Rattle.decks.specs.declared.fault.Fault.TheVariants.{Card, Pile, Book}

abbrev pub card_cause : CardFault → Cause
card_cause f = because (card_fault_number f) (card_fault_value f)

abbrev pub fault_cause : Fault → Cause
fault_cause (Card f) = card_cause f
fault_cause (Pile f) = because (pile_number f) (pos (pile_field f))
fault_cause (Book e) = cause e
