-- What a reader of pieces holds and hands out.
--
--     whole c               the bytes that the reader c parts
--     ahead c               the bytes that are still to come
--     left c                the pieces that are still to come
--     seen c                how many came
--     Begins c m e bs ps    the reader c parts the bytes bs at the mark m, from their first on, and where e is true a last piece comes
--                           even if it is empty; none came, and the pieces ps are still to come
--     Came c d p            the piece p came, and led from c to d: it is the next of the pieces that are left, begins where c has come to,
--                           and is numbered from 1 on; d parts the same bytes in the same way, has come to behind the piece and its mark,
--                           and has fewer bytes ahead, unless an empty last piece may come
--     Steps c r d           r is the next piece; or none where none is left, and then the reader stays as it was
--
-- Assumes nothing.
use Rattle.std.specs.Prelude.{◌≡◌, ℕ, ◌+◌, ◌<◌, Bool, false, List, [], ◌∷◌, length, take, drop, Some, None, Option}
use Rattle.cards.specs.declared.piece.Piece.{Piece}
use Rattle.cards.specs.declared.pieces.Pieces.{Pieces}
use Rattle.cards.specs.Pieces.{pieces_from}

abbrev pub whole : Pieces → List ℕ
whole c = c.bytes.now

abbrev pub ahead : Pieces → List ℕ
ahead c = drop c.at c.bytes.now

abbrev pub left : Pieces → List (List ℕ)
left c = pieces_from c.mark c.last c.bytes.now c.at

abbrev pub seen : Pieces → ℕ
seen c = c.count

abbrev pub Begins : Pieces → ℕ → Bool → List ℕ → List (List ℕ) → Type 0
Begins c m e bs ps = (whole c ≡ bs) × (left c ≡ ps) × (seen c ≡ 0) × (c.at ≡ 0) × (c.mark ≡ m) × (c.last ≡ e)

pub record Came (c d : Pieces) (p : Piece) : Type 0 where
  pub first : left c ≡ p.bytes.now ∷ left d
  pub begins : p.offset ≡ c.at
  pub place : p.bytes.now ≡ take (length p.bytes.now) (drop p.offset (whole c))
  pub number : p.number ≡ seen c + 1
  pub count : seen d ≡ seen c + 1
  pub same : whole d ≡ whole c
  pub behind : d.at ≡ p.offset + length p.bytes.now + 1
  pub alike : (d.mark ≡ c.mark) × (d.last ≡ c.last)
  pub shorter : c.last ≡ false → length (ahead d) < length (ahead c)

abbrev pub Steps : Pieces → Option Piece → Pieces → Type 0
Steps c None d = (left c ≡ []) × (d ≡ c)
Steps c (Some p) d = Came c d p
