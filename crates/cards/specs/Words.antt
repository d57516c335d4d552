-- The words of cards.
--
--     word_text w        the bytes of the word w
--     word_in bs         the word that the bytes bs are
--     count w            how many fields the card of the word w has, the word among them
--     in_place ready w   w may stand where the book is open, or is not: PILE opens it, and every other word needs it open
--     placed ready o     the word o, where it is in place
--
-- Assumes nothing.
use Rattle.std.specs.Prelude.{ℕ, Bool, cond, not, List, Some, None, codes, Option}
use Rattle.std.specs.Str.{bytes_eq}
use Rattle.cards.specs.declared.word.Word.{Word}
use Rattle.cards.specs.declared.word.Word.TheVariants.{Pile, Joint, Brace, Force, Check}

abbrev pub word_text : Word → List ℕ
word_text Pile = codes "PILE"
word_text Joint = codes "JOINT"
word_text Brace = codes "BRACE"
word_text Force = codes "FORCE"
word_text Check = codes "CHECK"

abbrev pub word_in : List ℕ → Option Word
word_in bs =
    cond (bytes_eq bs (word_text Pile)) (Some Pile)
    (cond (bytes_eq bs (word_text Joint)) (Some Joint)
    (cond (bytes_eq bs (word_text Brace)) (Some Brace)
    (cond (bytes_eq bs (word_text Force)) (Some Force)
    (cond (bytes_eq bs (word_text Check)) (Some Check) None))))

abbrev pub count : Word → ℕ
count Pile = 4
count Joint = 6
count Brace = 12
count Force = 9
count Check = 3

abbrev pub in_place : Bool → Word → Bool
in_place ready Pile = not ready
in_place ready Joint = ready
in_place ready Brace = ready
in_place ready Force = ready
in_place ready Check = ready

abbrev pub placed : Bool → Option Word → Option Word
placed ready None = None
placed ready (Some w) = cond (in_place ready w) (Some w) None
