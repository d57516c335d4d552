use Rattle.std.proofs.Common.{◌≡◌, Some, sym, refl, ap, ◌∙◌, rules}
use Rattle.ledger.specs.Ledger.{holding, brace_with_check, force_cause}
use Rattle.ledger.proofs.Steps.{stood_at, note_limits, amended}
use Rattle.ledger.proofs.tables.Tables.note.Goals as goal

pub returns : goal.returns
returns c =
    let at = stood_at c.args.joint c.args.brace (holding c.args.self.now) c.in_ok-i.i (search rules) (search rules) c.in_ok-i.ensures in
    let loaded : c.index-held.result.now.force ≡ Some c.in_ok-ok_or.field-0 = search rules in
    let same = ap (λ x. x.force) (sym (c.index-held.ensures ∙ at.found.here _)) in
    (note_limits c.args.joint c.args.brace (holding c.args.self.now) c.in_ok-i.i at ∙ ap force_cause (same ∙ loaded), amended c.args.joint c.args.brace (brace_with_check c.args.verdict) (holding c.args.self.now) _ c.in_ok-i.i c.index-held.result.now c.with_check.result at c.index-held.ensures c.with_check.ensures refl refl)
