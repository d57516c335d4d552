use Rattle.std.proofs.Common.{◌≡◌, ◌≤◌, length, take, vec_items, vec_len, vec_capacity}
use Rattle.book.specs.Runs.{Performed}
use Rattle.book.proofs.running.perform.Given as goal

abbrev pub invariant-loop-call : goal.invariant-loop-call
invariant-loop-call g l =
    (l.call-index ≤ length l.calls)
    × (vec_len l.answers ≡ l.call-index)
    × (length l.calls ≤ vec_capacity l.answers)
    × Performed g.E.Edition.meaning l.initial.book (take l.call-index l.calls) (vec_items l.answers) l.book
