use Rattle.std.proofs.Common.{◌≡◌, ◌≤◌, ℤ, pos, negsuc, nat_abs, ◌≤ℤ◌, Option, None, ap, ◌∙◌, arith, w64, SFits, rules}
use borrow.Author.Differences.{ints}
use Rattle.std.proofs.lemmas.Int.{to_z-of_z}
use Rattle.records.proofs.Laws.{Holding, held, first_of_both}
use Rattle.std.specs.Option.{option_or}
use Rattle.std.proofs.lemmas.Result.{err_from_is_err_and}
use Rattle.records.specs.Limits.{first_figure_outside, ratio_limits}
use Rattle.records.specs.declared.limits.Figure.{Figure}
use Rattle.verdicts.specs.declared.forces.ForceFigures.{ForceFigures}
use Rattle.verdicts.specs.Forces.{newton_limits, force_limits}
use Rattle.verdicts.proofs.force.Force.new.Goals as goal
use Rattle.verdicts.proofs.force.Force.new.Goals.{In_ok-within}

forced : (z : ℤ) → negsuc 99999999 ≤ℤ z → z ≤ℤ pos 100000000 → nat_abs z ≤ 100000000
forced (pos n) a b = omega (arith, ints)
forced (negsuc n) a b = omega (arith, ints)

module _ (c : goal.In_ok-within) where
  limits : Holding (newton_limits c.args.f)
  limits = held (newton_limits c.args.f) (rw c.limits.ensures at c.in_ok-within.ensures)

pub invariant_of-result : goal.invariant_of-result
invariant_of-result c =
    let h = limits (goal.at.invariant_of-result c).In_ok-within in
    let n : SFits w64 c.args.f.n = search rules in
    let y : SFits w64 c.args.f.my = search rules in
    let z : SFits w64 c.args.f.mz = search rules in
    record {
      axially = simp to_z-of_z (forced c.args.f.n h.0 h.1);
      inplane = simp to_z-of_z (forced c.args.f.my h.2.0 h.2.1);
      outplane = simp to_z-of_z (forced c.args.f.mz h.2.2.0 h.2.2.1);
    }

after_newtons : (f : ForceFigures) (o : Option Figure) → first_figure_outside (newton_limits f) ≡ o → first_figure_outside (force_limits f) ≡ option_or o (first_figure_outside (ratio_limits f.ratios))
after_newtons f o e = first_of_both (newton_limits f) (ratio_limits f.ratios) ∙ ap (λ x. option_or x (first_figure_outside (ratio_limits f.ratios))) e

pub returns-in_err-within-clause-fault : goal.returns-in_err-within-clause-fault
returns-in_err-within-clause-fault c =
    let p = err_from_is_err_and c.from_residual.result c.from_residual.ensures.1 in
    rw (p.1, p.2) (after_newtons c.args.f _ (rw c.limits.ensures at c.in_err-within.ensures))

pub returns-in_err-ratios-clause-fault : goal.returns-in_err-ratios-clause-fault
returns-in_err-ratios-clause-fault c =
    let p = err_from_is_err_and c.from_residual-in_err-ratios.result c.from_residual-in_err-ratios.ensures.1 in
    rw (p.1, p.2) (after_newtons c.args.f None (rw c.limits.ensures at c.in_ok-within.ensures) ∙ c.in_err-ratios.ensures.fault)

pub returns-clause-fault : goal.returns-clause-fault
returns-clause-fault c = after_newtons c.args.f None (rw c.limits.ensures at c.in_ok-within.ensures) ∙ c.in_ok-ratios.ensures.fault
