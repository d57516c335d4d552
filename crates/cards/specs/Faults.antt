-- The numbers and values of the faults of a line that is no card.
--
--     card_fault_number f    17 above 120 bytes, 14 no word or one out of place, 15 another count of fields, 16 a field that is no number
--     card_fault_value f     the count of fields, or the place of the field, the word being 1; 0 where there is nothing to tell
--
-- Assumes nothing.
use Rattle.std.specs.Prelude.{ℕ, ℤ, pos}
use Rattle.cards.specs.declared.card.CardFault.{CardFault}
use Rattle.cards.specs.declared.card.CardFault.TheVariants.{TooLong, NoWord, WrongCount, NotNumber}

abbrev pub card_fault_number : CardFault → ℕ
card_fault_number TooLong = 17
card_fault_number NoWord = 14
card_fault_number (WrongCount n) = 15
card_fault_number (NotNumber f) = 16

abbrev pub card_fault_value : CardFault → ℤ
card_fault_value TooLong = pos 0
card_fault_value NoWord = pos 0
card_fault_value (WrongCount n) = pos n
card_fault_value (NotNumber f) = pos f.field
