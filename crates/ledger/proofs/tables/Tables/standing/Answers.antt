use Rattle.std.proofs.Common.{rules}
use Rattle.ledger.proofs.Steps.{stood}
use Rattle.ledger.proofs.tables.Tables.standing.Goals as goal

pub returns : goal.returns
returns c = stood _ _ _ _ _ _ (search rules) (search rules) c.brace_at.ensures.found
