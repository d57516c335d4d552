use Rattle.std.proofs.Common.{◌≡◌, take, None, vec_items, fold}
use Rattle.ledger.specs.Worsts.{with_brace}
use Rattle.ledger.proofs.tables.Tables.worst.Given as goal

abbrev pub invariant-loop-i : goal.invariant-loop-i
invariant-loop-i l = l.best ≡ fold with_brace None (take l.i (vec_items l.self.braces))
