-- How many pieces a reader hands out.
use Rattle.std.proofs.Common.{◌≡◌, ℕ, ◌+◌, List, [], ◌∷◌, length, ap, arith}
use Rattle.std.specs.Iterator.{Yields, Drains}
use Rattle.cards.specs.declared.piece.Piece.{Piece}
use Rattle.cards.specs.declared.pieces.Pieces.{Pieces}
use Rattle.cards.specs.Readers.{left, Steps}

steps_count : (c d : Pieces) (ps : List Piece) → Yields Steps c ps d → length (left c) ≡ length ps + length (left d)
steps_count c d [] same = omega (arith, ap (λ x. length (left x)) same)
steps_count c d (p ∷ ps) (e, came, more) = omega (arith, ap length came.first, steps_count e d ps more)

pub pieces_count : (c : Pieces) (n : ℕ) (ps : List Piece) → Drains Steps c ps → n ≡ length ps → n ≡ length (left c)
pieces_count c n ps (end, (d, ran, none)) is = omega (arith, steps_count c d ps ran, ap length none.0)
