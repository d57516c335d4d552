-- The limits of a force.
--
--     newton_limits f   the rows of N, My and Mz, in newtons and newton-metres
--     force_limits f    these rows, and then those of the chord's ratios
--     IsForce n f       the force n holds just these figures
--
-- Assumes nothing.
use Rattle.std.specs.Prelude.{◌≡◌, List, [], ◌∷◌, ◌++◌, pos, negsuc}
use Rattle.records.specs.declared.limits.Limit.{Limit}
use Rattle.records.specs.declared.limits.Figure.TheVariants.{AxialForce, InPlaneMoment, OutOfPlaneMoment}
use Rattle.records.specs.Limits.{limit, ratio_limits}
use Rattle.verdicts.specs.declared.force.Force.{Force}
use Rattle.verdicts.specs.declared.forces.ForceFigures.{ForceFigures}

abbrev pub newton_limits : ForceFigures → List Limit
newton_limits f =
    limit AxialForce (negsuc 99999999) f.n (pos 100000000) ∷
    limit InPlaneMoment (negsuc 99999999) f.my (pos 100000000) ∷
    limit OutOfPlaneMoment (negsuc 99999999) f.mz (pos 100000000) ∷
    []

abbrev pub force_limits : ForceFigures → List Limit
force_limits f = newton_limits f ++ ratio_limits f.ratios

pub record IsForce (force : Force) (f : ForceFigures) : Type 0 where
  pub n : force.n ≡ f.n
  pub my : force.my ≡ f.my
  pub mz : force.mz ≡ f.mz
  pub p : force.ratios.p ≡ f.ratios.p
  pub mi : force.ratios.mi ≡ f.ratios.mi
  pub mo : force.ratios.mo ≡ f.ratios.mo
