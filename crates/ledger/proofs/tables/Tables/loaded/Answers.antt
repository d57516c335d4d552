use Rattle.std.proofs.Common.{sym, ap, ◌∙◌, rules}
use Rattle.ledger.specs.Ledger.{holding}
use Rattle.ledger.proofs.Steps.{stood_at}
use Rattle.ledger.proofs.tables.Tables.loaded.Goals as goal

pub returns : goal.returns
returns c =
    let at = stood_at c.args.joint c.args.brace (holding c.args.self.now) c.in_ok-i.i (search rules) (search rules) c.in_ok-i.ensures in
    let same = c.index-held.ensures ∙ at.found.here _ in
    (at.found.held, at.stands, ap (λ x. x.figures) (sym same), ap (λ x. x.force) (sym same) ∙ search rules)
