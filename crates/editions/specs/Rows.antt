-- Which row of the rules applies to a brace.
--
--     above_six_tenths r     β > 0.6
--     above_nine_tenths r    β > 0.9
--     row_of_gap s n r       a gap where n g ≥ s, an overlap where n g ≤ −s, between them for the rest
--     gap_row_by_api r       API: a gap where g/D ≥ 0.05, an overlap where g/D ≤ −0.05, between them for the rest
--     ApiBetween r           −0.05 < g/D < 0.05
--     gap_row_by_iso r       ISO: a gap where 5 g ≥ T, an overlap where 5 g ≤ −T, between them for the rest
--     IsoGap r               5 g ≥ T
--     IsoBetween r           −T < 5 g < T
--
-- Assumes nothing.
use Rattle.std.specs.Prelude.{◌*◌, ◌<◌, ◌≤◌, ℕ, Bool, cond, nat_le, nat_lt}
use Rattle.records.specs.declared.record.BraceRecord.{BraceRecord}
use Rattle.records.specs.Signs.{apart, lap}
use Rattle.editions.specs.declared.rows.GapRow.{GapRow}
use Rattle.editions.specs.declared.rows.GapRow.TheVariants.{Gap, Between, Overlap}

abbrev pub above_six_tenths : BraceRecord → Bool
above_six_tenths r = nat_lt (3 * r.diameter) (5 * r.brace)

abbrev pub above_nine_tenths : BraceRecord → Bool
above_nine_tenths r = nat_lt (9 * r.diameter) (10 * r.brace)

abbrev pub row_of_gap : (span parts : ℕ) → BraceRecord → GapRow
row_of_gap span parts r = cond (nat_le span (parts * apart r.gap)) Gap (cond (nat_le span (parts * lap r.gap)) Overlap Between)

abbrev pub gap_row_by_api : BraceRecord → GapRow
gap_row_by_api r = row_of_gap r.diameter 20 r

abbrev pub ApiBetween : BraceRecord → Type 0
ApiBetween r = (20 * apart r.gap < r.diameter) × (20 * lap r.gap < r.diameter)

abbrev pub gap_row_by_iso : BraceRecord → GapRow
gap_row_by_iso r = row_of_gap r.wall 5 r

abbrev pub IsoGap : BraceRecord → Type 0
IsoGap r = r.wall ≤ 5 * apart r.gap

abbrev pub IsoBetween : BraceRecord → Type 0
IsoBetween r = (5 * apart r.gap < r.wall) × (5 * lap r.gap < r.wall)
