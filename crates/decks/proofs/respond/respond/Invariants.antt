use Rattle.std.proofs.Common.{string_bytes}
use Rattle.cards.specs.Readers.{left, seen}
use Rattle.decks.specs.Sessions.{desk_of}
use Rattle.decks.proofs.Following.{Sofar}
use Rattle.decks.proofs.respond.respond.Given as goal

abbrev pub invariant-loop-line : goal.invariant-loop-line
invariant-loop-line l =
    (goal.iterator-loop-line).can_next l.line-iterator
    × (goal.iterator-loop-line).is_finite l.line-iterator
    × Sofar l.input (left l.line-iterator) (string_bytes l.out) (seen l.line-iterator) (desk_of l.session)
