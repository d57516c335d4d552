use Rattle.std.proofs.Common.{refl, ap, ◌∙◌, rules}
use Rattle.ledger.specs.Ledger.{holding, figure_cause, Loaded, brace_with_force}
use Rattle.ledger.proofs.Steps.{passed, stood_at, load_limits, amended}
use Rattle.ledger.proofs.tables.Tables.load.Goals as goal

pub returns-in_err-force : goal.returns-in_err-force
returns-in_err-force c =
    let at = stood_at c.args.joint c.args.brace (holding c.args.self.now) c.in_ok-i.i (search rules) (search rules) c.in_ok-i.ensures in
    let why = load_limits c.args.joint c.args.brace c.args.figures (holding c.args.self.now) c.in_ok-i.i at in
    passed _ (Loaded c.args.joint c.args.brace c.args.figures (holding c.args.self.now) (holding c.args.self.now)) (holding c.args.self.now) _ _ c.from_residual-in_err-force.ensures.1
    (why ∙ ap figure_cause c.in_err-force.ensures.fault)

pub returns : goal.returns
returns c =
    let at = stood_at c.args.joint c.args.brace (holding c.args.self.now) c.in_ok-i.i (search rules) (search rules) c.in_ok-i.ensures in
    let why = load_limits c.args.joint c.args.brace c.args.figures (holding c.args.self.now) c.in_ok-i.i at in (
      why ∙ ap figure_cause c.in_ok-force.ensures.fault,
      record {
        force = c.in_ok-force.force;
        is = c.in_ok-force.ensures.is;
        amended = amended c.args.joint c.args.brace (brace_with_force c.in_ok-force.force) (holding c.args.self.now) _ c.in_ok-i.i c.index-held.result.now c.with_force.result at c.index-held.ensures c.with_force.ensures refl refl;
      },
    )
