-- The text of a card.
--
--     joined ts         the texts ts, parted by commas
--     card_word c       the word of the card c
--     card_numbers c    its numbers, in the order of its fields
--     card_text c       its line: the word and the decimal texts of its numbers, parted by commas
--     Readable ready c  the text of c may stand as a card: its numbers have at most ten digits, its word is in place, and its line has at
--                       most 120 bytes
--
-- Assumes nothing.
use Rattle.std.specs.Prelude.{◌≡◌, ℕ, ◌≤◌, Bool, true, List, [], ◌∷◌, ◌++◌, map, length, ℤ}
use Rattle.std.specs.Fmt.{signed_decimal}
use Rattle.std.specs.List.{AllByRecursion}
use Rattle.cards.specs.declared.word.Word.{Word}
use Rattle.cards.specs.declared.word.Word.TheVariants as word
use Rattle.cards.specs.declared.card.Card.{Card}
use Rattle.cards.specs.declared.card.Card.TheVariants.{Pile, Joint, Brace, Force, Check}
use Rattle.cards.specs.Numbers.{Short}
use Rattle.cards.specs.Words.{word_text, in_place}

abbrev pub joined : List (List ℕ) → List ℕ
joined [] = []
joined (t ∷ []) = t
joined (t ∷ u ∷ us) = t ++ 44 ∷ joined (u ∷ us)

abbrev pub card_word : Card → Word
card_word (Pile n) = word.Pile
card_word (Joint j f) = word.Joint
card_word (Brace j b f) = word.Brace
card_word (Force j b f) = word.Force
card_word (Check j b) = word.Check

abbrev pub card_numbers : Card → List ℤ
card_numbers (Pile n) = n.edition ∷ n.divisor ∷ n.can ∷ []
card_numbers (Joint j f) = j ∷ f.diameter ∷ f.wall ∷ f.nominal ∷ f.fy ∷ []
card_numbers (Brace j b f) = j ∷ b ∷ f.brace ∷ f.thickness ∷ f.fyb ∷ f.sine ∷ f.gap ∷ f.length ∷ f.k ∷ f.y ∷ f.x ∷ []
card_numbers (Force j b f) = j ∷ b ∷ f.n ∷ f.my ∷ f.mz ∷ f.ratios.p ∷ f.ratios.mi ∷ f.ratios.mo ∷ []
card_numbers (Check j b) = j ∷ b ∷ []

abbrev pub card_text : Card → List ℕ
card_text c = joined (word_text (card_word c) ∷ map signed_decimal (card_numbers c))

pub record Readable (ready : Bool) (c : Card) : Type 0 where
  pub short : AllByRecursion Short (card_numbers c)
  pub placed : in_place ready (card_word c) ≡ true
  pub fits : length (card_text c) ≤ 120
