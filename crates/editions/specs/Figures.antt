-- The ratios of a brace and its chord, as exact fractions.
--
--     beta r             β = d / D
--     gamma r            γ = 5 D / T, from 10 to 50: half the diameter over the wall, with the wall in tenths of a millimetre
--     phi r              φ = t fyb / (T fy)
--     of_diameter r n    n / D
--     of_wall r n        n / T
--
-- Assumes nothing.
use Rattle.std.specs.Prelude.{ℕ, ◌*◌, ◌<◌}
use Rattle.std.proofs.Common.{mul-pos, arith}
use Rattle.powers.specs.Fractions.{Fraction, quotient}
use Rattle.records.specs.declared.record.BraceRecord.{BraceRecord}

pub diameter_positive : (r : BraceRecord) → 0 < r.diameter
diameter_positive r = let h = r.size in omega arith

pub wall_positive : (r : BraceRecord) → 0 < r.wall
wall_positive r = let h = r.thick in omega arith

pub yield_positive : (r : BraceRecord) → 0 < r.wall * r.fy
yield_positive r = let h = r.strong in mul-pos (wall_positive r) (omega arith)

abbrev pub of_diameter : BraceRecord → ℕ → Fraction
of_diameter r n = quotient n r.diameter (diameter_positive r)

abbrev pub of_wall : BraceRecord → ℕ → Fraction
of_wall r n = quotient n r.wall (wall_positive r)

abbrev pub beta : BraceRecord → Fraction
beta r = of_diameter r r.brace

abbrev pub gamma : BraceRecord → Fraction
gamma r = of_wall r (5 * r.diameter)

abbrev pub phi : BraceRecord → Fraction
phi r = quotient (r.thickness * r.fyb) (r.wall * r.fy) (yield_positive r)
