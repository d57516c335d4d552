use Rattle.std.proofs.Common.{vec_items, rules}
use borrow.Author.Tests.{tests}
use Rattle.std.proofs.lemmas.Iterator.{YieldsList-from_slice}
use Rattle.std.proofs.lemmas.Iterator.Search.{position_from_yields_List}
use Rattle.ledger.specs.Ledger.{is_brace}
use Rattle.ledger.proofs.Places.{spotted, stands}
use Rattle.ledger.proofs.tables.Tables.brace_at.Goals as goal

pub returns : goal.returns
returns c =
    let p = is_brace c.args.joint c.args.number in
    let xs = vec_items c.args.self.now.braces in
    let first = position_from_yields_List p _ _ _ c.position.ensures.ran (YieldsList-from_slice xs cc) (λ x b q k. search (rules, tests)) in
    let found = spotted p xs _ _ _ first c.ok_or.ensures.value in
    record { stands = stands p xs _ _ found; found = found }
