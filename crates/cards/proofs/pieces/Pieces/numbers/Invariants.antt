use Rattle.std.proofs.Common.{◌≡◌, ◌+◌, length, take}
use Rattle.cards.specs.Readers.{left, seen}
use Rattle.cards.specs.Cards.{after, numbers_in}
use Rattle.cards.proofs.pieces.Pieces.numbers.Given as goal

abbrev pub invariant-loop-value : goal.invariant-loop-value
invariant-loop-value g l =
    (seen l.self ≡ seen l.fn.self + l.value-index)
    × (length l.value-items ≡ g.row.N)
    × (length (left l.fn.self) ≡ g.row.N → (length (left l.self) + l.value-index ≡ g.row.N) × (after (take l.value-index l.value-items) (numbers_in (seen l.self + 1) (left l.self)) ≡ numbers_in (seen l.fn.self + 1) (left l.fn.self)))
