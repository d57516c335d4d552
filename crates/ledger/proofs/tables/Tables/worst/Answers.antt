use Rattle.std.proofs.Common.{◌≡◌, None, vec_items, fold, ap, ◌∙◌, arith}
use Rattle.std.proofs.lemmas.List.{take_all}
use Rattle.ledger.specs.Ledger.{holding}
use Rattle.ledger.specs.Worsts.{with_brace}
use Rattle.ledger.proofs.Bests.{answers, names}
use Rattle.ledger.proofs.tables.Tables.worst.Goals as goal

pub returns : goal.returns
returns c =
    let all : c.loop-i.best ≡ fold with_brace None (vec_items c.args.self.now.braces) = c.loop-i.invariant ∙ ap (fold with_brace None) (take_all c.loop-i.i (vec_items c.args.self.now.braces) (omega arith)) in
    record { worst = answers _ _ _ all c.ok_or.ensures.value; names = names (holding c.args.self.now) _ _ all c.ok_or.ensures.value }
