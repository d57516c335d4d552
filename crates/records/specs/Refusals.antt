-- The numbers and values of refusals for figures.
--
--     figure_number x    the number of a refusal for a figure outside its limits: 7 the chord's, 8 the brace's, 10 the force's
--     figure_field x     its field on a card, the word being 1
--     misfit_number m    the number of a refusal for what makes no brace record: 8 for a figure, 9 for the sum of the shares
--     misfit_value m     its value: the field, or the sum
--
-- Assumes nothing.
use Rattle.std.specs.Prelude.{ℕ, ℤ, pos}
use Rattle.records.specs.declared.limits.Figure.{Figure}
use Rattle.records.specs.declared.limits.Figure.TheVariants.{ChordDiameter, ChordWall, NominalWall, ChordYield, BraceDiameter, BraceWall, BraceYield, Sine, Gap, CanLength, ShareK, ShareY, ShareX, AxialForce, InPlaneMoment, OutOfPlaneMoment, AxialRatio, InPlaneRatio, OutOfPlaneRatio}
use Rattle.records.specs.declared.limits.Misfit.{Misfit}
use Rattle.records.specs.declared.limits.Misfit.TheVariants.{Outside, SharesSum}

abbrev pub figure_number : Figure → ℕ
figure_number ChordDiameter = 7
figure_number ChordWall = 7
figure_number NominalWall = 7
figure_number ChordYield = 7
figure_number BraceDiameter = 8
figure_number BraceWall = 8
figure_number BraceYield = 8
figure_number Sine = 8
figure_number Gap = 8
figure_number CanLength = 8
figure_number ShareK = 8
figure_number ShareY = 8
figure_number ShareX = 8
figure_number AxialForce = 10
figure_number InPlaneMoment = 10
figure_number OutOfPlaneMoment = 10
figure_number AxialRatio = 10
figure_number InPlaneRatio = 10
figure_number OutOfPlaneRatio = 10

abbrev pub figure_field : Figure → ℕ
figure_field ChordDiameter = 3
figure_field ChordWall = 4
figure_field NominalWall = 5
figure_field ChordYield = 6
figure_field BraceDiameter = 4
figure_field BraceWall = 5
figure_field BraceYield = 6
figure_field Sine = 7
figure_field Gap = 8
figure_field CanLength = 9
figure_field ShareK = 10
figure_field ShareY = 11
figure_field ShareX = 12
figure_field AxialForce = 4
figure_field InPlaneMoment = 5
figure_field OutOfPlaneMoment = 6
figure_field AxialRatio = 7
figure_field InPlaneRatio = 8
figure_field OutOfPlaneRatio = 9

abbrev pub misfit_number : Misfit → ℕ
misfit_number (Outside x) = figure_number x
misfit_number (SharesSum s) = 9

abbrev pub misfit_value : Misfit → ℤ
misfit_value (Outside x) = pos (figure_field x)
misfit_value (SharesSum s) = s
