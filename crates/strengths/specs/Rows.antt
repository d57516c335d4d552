-- Which row of a code's table a strength comes from.
--
--     beta_row x r      whether β is above the bound x, 0.6 or 0.9, or up to it
--     row_of g b        the row with the gap's row g and β's row b, where the table asks for them
--     row_by_iso r k    ISO's row for the kind k: K asks for the gap and for β about 0.6, compression of Y and X for β about 0.6, and
--                       tension of X for β about 0.9
--     row_by_api r k    API's row for the kind k: K asks for the gap, compression of X for β about 0.6, and tension of X for β about 0.9
--
-- Assumes nothing.
use Rattle.std.specs.Prelude.{cond, Option, Some, None}
use Rattle.records.specs.declared.kind.Kind.{Kind}
use Rattle.records.specs.declared.kind.Kind.TheVariants.{KAxial, YTension, YCompression, XTension, XCompression, InPlane, OutOfPlane}
use Rattle.records.specs.declared.record.BraceRecord.{BraceRecord}
use Rattle.editions.specs.declared.rows.GapRow.{GapRow}
use Rattle.editions.specs.Rows.{above_six_tenths, above_nine_tenths, gap_row_by_api, gap_row_by_iso}
use Rattle.strengths.specs.declared.row.Bound.{Bound}
use Rattle.strengths.specs.declared.row.Bound.TheVariants.{SixTenths, NineTenths}
use Rattle.strengths.specs.declared.row.BetaRow.{BetaRow}
use Rattle.strengths.specs.declared.row.BetaRow.TheVariants.{UpTo, Above}
use Rattle.strengths.specs.declared.row.Row.{Row}

abbrev pub beta_row : Bound → BraceRecord → BetaRow
beta_row SixTenths r = cond (above_six_tenths r) (Above SixTenths) (UpTo SixTenths)
beta_row NineTenths r = cond (above_nine_tenths r) (Above NineTenths) (UpTo NineTenths)

abbrev pub row_of : Option GapRow → Option BetaRow → Row
row_of g b = record { gap = g; beta = b }

abbrev pub row_by_iso : BraceRecord → Kind → Row
row_by_iso r KAxial = row_of (Some (gap_row_by_iso r)) (Some (beta_row SixTenths r))
row_by_iso r YTension = row_of None None
row_by_iso r YCompression = row_of None (Some (beta_row SixTenths r))
row_by_iso r XTension = row_of None (Some (beta_row NineTenths r))
row_by_iso r XCompression = row_of None (Some (beta_row SixTenths r))
row_by_iso r InPlane = row_of None None
row_by_iso r OutOfPlane = row_of None None

abbrev pub row_by_api : BraceRecord → Kind → Row
row_by_api r KAxial = row_of (Some (gap_row_by_api r)) None
row_by_api r YTension = row_of None None
row_by_api r YCompression = row_of None None
row_by_api r XTension = row_of None (Some (beta_row NineTenths r))
row_by_api r XCompression = row_of None (Some (beta_row SixTenths r))
row_by_api r InPlane = row_of None None
row_by_api r OutOfPlane = row_of None None
