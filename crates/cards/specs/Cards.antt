-- The cards.
--
--     numbers_in k ts       the numbers of the fields ts, of which the first is field k; else the first field that is no number
--     Numbers k ts r us     r is the number of the first of the fields ts, which is field k, and us are those behind it; with no field left
--                           there is no number
--     by_numbers w r        the card of the word w with the numbers r; else their fault
--     card_of_word w zs     the card of the word w with the numbers zs
--     card_of ready line    the card of a line, where the book is open or not; else its first fault in this order: more than 120 bytes; no
--                           word, or one out of place; another count of fields than the word's; a field that is no number
--
-- Assumes nothing.
use Rattle.std.specs.Prelude.{◌≡◌, ℕ, ◌+◌, Bool, cond, List, [], ◌∷◌, ◌++◌, length, ℤ, pos, Some, None, Ok, Err, Option, Result, ◌==◌, nat_lt, slice_index_or}
use Rattle.cards.specs.declared.word.Word.{Word}
use Rattle.cards.specs.declared.word.Word.TheVariants as word
use Rattle.cards.specs.declared.card.NumberFault.{NumberFault}
use Rattle.cards.specs.declared.card.CardFault.{CardFault}
use Rattle.cards.specs.declared.card.CardFault.TheVariants.{TooLong, NoWord, WrongCount, NotNumber}
use Rattle.cards.specs.declared.card.Card.{Card}
use Rattle.cards.specs.declared.card.Card.TheVariants.{Pile, Joint, Brace, Force, Check}
use Rattle.cards.specs.Numbers.{number_in}
use Rattle.cards.specs.Words.{word_in, count, placed}
use Rattle.cards.specs.Pieces.{fields_of}

-- zs stand before the numbers of r
abbrev pub after : List ℤ → Result (List ℤ) NumberFault → Result (List ℤ) NumberFault
after zs (Ok ys) = Ok (zs ++ ys)
after zs (Err f) = Err f

abbrev pub then : Option ℤ → ℕ → Result (List ℤ) NumberFault → Result (List ℤ) NumberFault
then None k r = Err (record { field = k })
then (Some z) k r = after (z ∷ []) r

abbrev pub numbers_in : ℕ → List (List ℕ) → Result (List ℤ) NumberFault
numbers_in k [] = Ok []
numbers_in k (t ∷ ts) = then (number_in t) k (numbers_in (k + 1) ts)

abbrev pub Numbers : ℕ → List (List ℕ) → Result ℤ NumberFault → List (List ℕ) → Type 0
Numbers k [] r us = r ≡ Err (record { field = k })
Numbers k (t ∷ ts) (Ok z) us = (number_in t ≡ Some z) × (us ≡ ts)
Numbers k (t ∷ ts) (Err f) us = (number_in t ≡ None) × (f ≡ record { field = k })

abbrev pub at : List ℤ → ℕ → ℤ
at zs i = slice_index_or zs i (pos 0)

-- PILE,edition,divisor,can; JOINT,joint,D,T,Tn,fy; BRACE,joint,brace,d,t,fyb,s,g,Lc,K,Y,X; FORCE,joint,brace,N,My,Mz,p,mi,mo; CHECK,joint,brace
abbrev pub card_of_word : Word → List ℤ → Card
card_of_word word.Pile zs = Pile (record { edition = at zs 0; divisor = at zs 1; can = at zs 2 })
card_of_word word.Joint zs = Joint (at zs 0) (record { diameter = at zs 1; wall = at zs 2; nominal = at zs 3; fy = at zs 4 })
card_of_word word.Brace zs = Brace (at zs 0) (at zs 1) (record {
  brace = at zs 2;
  thickness = at zs 3;
  fyb = at zs 4;
  sine = at zs 5;
  gap = at zs 6;
  length = at zs 7;
  k = at zs 8;
  y = at zs 9;
  x = at zs 10;
})
card_of_word word.Force zs = Force (at zs 0) (at zs 1) (record { n = at zs 2; my = at zs 3; mz = at zs 4; ratios = record { p = at zs 5; mi = at zs 6; mo = at zs 7 } })
card_of_word word.Check zs = Check (at zs 0) (at zs 1)

abbrev pub by_numbers : Word → Result (List ℤ) NumberFault → Result Card CardFault
by_numbers w (Ok zs) = Ok (card_of_word w zs)
by_numbers w (Err f) = Err (NotNumber f)

abbrev pub by_word : Option Word → ℕ → List (List ℕ) → Result Card CardFault
by_word None n ts = Err NoWord
by_word (Some w) n ts = cond (n == count w) (by_numbers w (numbers_in 2 ts)) (Err (WrongCount n))

abbrev pub by_fields : Bool → List (List ℕ) → Result Card CardFault
by_fields ready [] = Err NoWord
by_fields ready (w ∷ ts) = by_word (placed ready (word_in w)) (length (w ∷ ts)) ts

unfoldable pub card_of : Bool → List ℕ → Result Card CardFault
card_of ready line = cond (nat_lt 120 (length line)) (Err TooLong) (by_fields ready (fields_of line))
