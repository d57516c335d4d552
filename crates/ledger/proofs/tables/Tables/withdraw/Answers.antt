use Rattle.std.proofs.Common.{rules}
use Rattle.std.proofs.lemmas.Fn.{filter_same}
use Rattle.ledger.specs.Ledger.{elsewhere}
use Rattle.ledger.proofs.tables.Tables.withdraw.Goals as goal

pub returns : goal.returns
returns c =
    let left = filter_same _ (elsewhere c.in_ok-n.n) _ (λ x b q k. search rules) _ _ c.retain.ensures.filtered in
    search rules
