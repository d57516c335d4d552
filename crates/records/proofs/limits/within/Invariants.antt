use Rattle.std.proofs.Common.{◌≡◌, drop}
use Rattle.records.specs.Limits.{first_figure_outside}
use Rattle.records.proofs.limits.within.Given as goal

abbrev pub invariant-loop-x : goal.invariant-loop-x
invariant-loop-x l = first_figure_outside (drop l.x-index l.limits) ≡ first_figure_outside l.limits
