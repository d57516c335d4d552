-- ISO 19902:2007: the factor of each kind.
--
--     gapped r             the gap factor of a gap, 1.9 − √(g/D), at least 1
--     between r            linear in g from the overlap's value at 5 g = −T to 1.9 − √(T/(5D)) at 5 g = T
--     q_g row r            the gap factor Qg
--     factor_of_y_compression r    the factor of Y compression, which K takes too
--     factor_by_iso r k    the factor of the kind k; Y tension and both X kinds are API's
--
-- That this is the printed standard is not proved: docs/RULES.md has it to compare. Assumes nothing.
use Rattle.std.specs.Prelude.{◌+◌, ◌-◌, ◌*◌}
use Rattle.powers.specs.Fractions.{number, ◌+ᶠ◌, ◌*ᶠ◌}
use Rattle.powers.specs.Formulas.{Formula, constant, power, ◌⊕◌, ◌⊖◌, ◌⊗◌, ◌at_least◌}
use Rattle.records.specs.declared.record.BraceRecord.{BraceRecord}
use Rattle.records.specs.declared.kind.Kind.{Kind}
use Rattle.records.specs.declared.kind.Kind.TheVariants.{KAxial, YTension, YCompression, XTension, XCompression, InPlane, OutOfPlane}
use Rattle.records.specs.Signs.{apart, lap}
use Rattle.editions.specs.declared.rows.GapRow.{GapRow}
use Rattle.editions.specs.declared.rows.GapRow.TheVariants.{Gap, Between, Overlap}
use Rattle.editions.specs.Figures.{beta, gamma, of_diameter, of_wall}
use Rattle.editions.specs.Rows.{gap_row_by_iso}
use Rattle.editions.specs.Factors.{q_beta, overlapped, factor_of_y_tension, factor_of_x_tension, factor_of_x_compression}

abbrev pub gapped : BraceRecord → Formula
gapped r = (constant (number 19 10) ⊖ power (of_diameter r (apart r.gap)) (number 1 2)) at_least constant (number 1 1)

-- (T − 5 g) / 2T of the overlap's value and (T + 5 g) / 2T of the gap's value at 5 g = T
abbrev pub between : BraceRecord → Formula
between r =
    let t = r.wall in
    constant (of_wall r (t + 5 * lap r.gap - 5 * apart r.gap) *ᶠ number 1 2) ⊗ overlapped r
    ⊕ constant (of_wall r (t + 5 * apart r.gap - 5 * lap r.gap) *ᶠ number 1 2) ⊗ (constant (number 19 10) ⊖ power (number 1 5 *ᶠ of_diameter r r.wall) (number 1 2))

abbrev pub q_g : GapRow → BraceRecord → Formula
q_g Gap r = gapped r
q_g Between r = between r
q_g Overlap r = overlapped r

-- (1.9 + 19 β) √Qβ
abbrev pub factor_of_y_compression : BraceRecord → Formula
factor_of_y_compression r = constant (number 19 10 +ᶠ number 19 1 *ᶠ beta r) ⊗ power (q_beta r) (number 1 2)

abbrev pub factor_by_iso : BraceRecord → Kind → Formula
-- (1.9 + 19 β) √Qβ Qg
factor_by_iso r KAxial = factor_of_y_compression r ⊗ q_g (gap_row_by_iso r) r
factor_by_iso r YTension = factor_of_y_tension r
factor_by_iso r YCompression = factor_of_y_compression r
factor_by_iso r XTension = factor_of_x_tension r
factor_by_iso r XCompression = factor_of_x_compression r
-- 4.5 β √γ
factor_by_iso r InPlane = constant (number 45 10 *ᶠ beta r) ⊗ power (gamma r) (number 1 2)
-- 3.2 γ^(β²/2)
factor_by_iso r OutOfPlane = constant (number 32 10) ⊗ power (gamma r) (number 1 2 *ᶠ (beta r *ᶠ beta r))
