-- API RP 2A-WSD, 21st edition with Supplement 3: the factor of each kind.
--
--     gapped r             the gap factor of a gap, 1 + 0.2 (1 − 2.8 g/D)³, at least 1
--     between r            linear in g/D from the overlap's value at −0.05 to 1.1272112 at 0.05
--     q_g row r            the gap factor Qg
--     factor_by_api r k    the factor of the kind k
--
-- That this is the printed standard is not proved: docs/RULES.md has it to compare. Assumes nothing.
use Rattle.std.specs.Prelude.{◌+◌, ◌-◌, ◌*◌}
use Rattle.powers.specs.Fractions.{Fraction, number, ◌+ᶠ◌, ◌−ᶠ◌, ◌*ᶠ◌, ◌at_most◌}
use Rattle.powers.specs.Formulas.{Formula, constant, power, ◌⊕◌, ◌⊗◌}
use Rattle.records.specs.declared.record.BraceRecord.{BraceRecord}
use Rattle.records.specs.declared.kind.Kind.{Kind}
use Rattle.records.specs.declared.kind.Kind.TheVariants.{KAxial, YTension, YCompression, XTension, XCompression, InPlane, OutOfPlane}
use Rattle.records.specs.Signs.{apart, lap}
use Rattle.editions.specs.declared.rows.GapRow.{GapRow}
use Rattle.editions.specs.declared.rows.GapRow.TheVariants.{Gap, Between, Overlap}
use Rattle.editions.specs.Figures.{beta, gamma, of_diameter}
use Rattle.editions.specs.Rows.{gap_row_by_api}
use Rattle.editions.specs.Factors.{overlapped, factor_of_y_tension, factor_of_x_tension, factor_of_x_compression}

-- A cube below 0 would make the sum less than 1: its base is cut at 0.
abbrev pub gapped : BraceRecord → Fraction
gapped r =
    let x = number 1 1 −ᶠ number 28 10 *ᶠ of_diameter r (apart r.gap) in
    number 1 1 +ᶠ number 2 10 *ᶠ (x *ᶠ x *ᶠ x)

-- (D − 20 g) / 2D of the overlap's value and (D + 20 g) / 2D of 1.1272112
abbrev pub between : BraceRecord → Formula
between r =
    let d = r.diameter in
    constant (of_diameter r (d + 20 * lap r.gap - 20 * apart r.gap) *ᶠ number 1 2) ⊗ overlapped r
    ⊕ constant (of_diameter r (d + 20 * apart r.gap - 20 * lap r.gap) *ᶠ number 1 2 *ᶠ number 11272112 10000000)

abbrev pub q_g : GapRow → BraceRecord → Formula
q_g Gap r = constant (gapped r)
q_g Between r = between r
q_g Overlap r = overlapped r

abbrev pub factor_by_api : BraceRecord → Kind → Formula
-- (16 + 1.2 γ, at most 40) β^(6/5) Qg
factor_by_api r KAxial = constant (number 16 1 +ᶠ number 12 10 *ᶠ gamma r at_most number 40 1) ⊗ power (beta r) (number 6 5) ⊗ q_g (gap_row_by_api r) r
factor_by_api r YTension = factor_of_y_tension r
-- 2.8 + (20 + 0.8 γ, at most 36) β^(8/5)
factor_by_api r YCompression = constant (number 28 10) ⊕ constant (number 20 1 +ᶠ number 8 10 *ᶠ gamma r at_most number 36 1) ⊗ power (beta r) (number 8 5)
factor_by_api r XTension = factor_of_x_tension r
factor_by_api r XCompression = factor_of_x_compression r
-- (5 + 0.7 γ) β^(6/5)
factor_by_api r InPlane = constant (number 5 1 +ᶠ number 7 10 *ᶠ gamma r) ⊗ power (beta r) (number 6 5)
-- 2.5 + (4.5 + 0.2 γ) β^(13/5)
factor_by_api r OutOfPlane = constant (number 25 10) ⊕ constant (number 45 10 +ᶠ number 2 10 *ᶠ gamma r) ⊗ power (beta r) (number 13 5)
