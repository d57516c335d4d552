use Rattle.std.proofs.Common.{sym, ◌∙◌}
use Rattle.std.proofs.lemmas.List.{at_drop_more, at_drop_all}
use Rattle.std.proofs.lemmas.Bool.{cond-true, cond-false}
use Rattle.records.specs.Limits.{first_figure_outside}
use Rattle.records.proofs.limits.within.Goals as goal

pub returns-then-is_outside : goal.returns-then-is_outside
unfolding first_figure_outside
returns-then-is_outside c =
    sym c.loop-x.invariant ∙ at_drop_more first_figure_outside c.args.limits.now c.loop-x.x-index _ c.loop-x-test.true ∙ cond-true _ _ _ (sym c.if-is_outside.ensures)

pub loop-x-preserved : goal.loop-x-preserved
unfolding first_figure_outside
loop-x-preserved c =
    sym (at_drop_more first_figure_outside c.args.limits.now c.loop-x.x-index _ c.loop-x-test.true ∙ cond-false _ _ _ (sym c.if-is_outside.ensures)) ∙ c.loop-x.invariant

pub returns : goal.returns
unfolding first_figure_outside
returns c = sym c.loop-x.invariant ∙ at_drop_all first_figure_outside c.args.limits.now c.loop-x.x-index c.loop-x-test.false
