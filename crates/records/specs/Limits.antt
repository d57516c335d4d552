-- The limits of the figures of a chord, a brace and a force's chord ratios, and which is the first outside them.
--
--     limit x low value high       a row of limits: the figure x asks that the value is from low to high
--     outside l                    the value of the row l is not
--     first_figure_outside rows    the figure of the first row whose value is outside
--     chord_limits f               the rows of a chord, in the order of its figures; a row that compares two figures is the later one's
--     brace_limits c f             the rows of a brace at the chord c
--     ratio_limits f               the rows of the chord's ratios
--     shares_sum f                 the sum of the shares
--     brace_fault c f              why f makes no brace at the chord c, if it makes none
--     RefusedBy why r              the result r is refused by just the fault `why`, and stands where there is none
--     IsChord c f, IsBrace b c f, IsRatios q f    the record holds just these figures
--
-- Assumes nothing.
use Rattle.std.specs.Prelude.{◌≡◌, Bool, cond, ◌||◌, List, [], ◌∷◌, ℤ, pos, negsuc, ◌+ℤ◌, ◌*ℤ◌, neg_ℤ, Some, None, Option, int_lt, MatchResult, Result}
use Rattle.records.specs.declared.record.Chord.{Chord}
use Rattle.records.specs.declared.record.BraceRecord.{BraceRecord}
use Rattle.records.specs.declared.ratios.Ratios.{Ratios}
use Rattle.records.specs.declared.limits.ChordFigures.{ChordFigures}
use Rattle.records.specs.declared.limits.BraceFigures.{BraceFigures}
use Rattle.records.specs.declared.limits.RatioFigures.{RatioFigures}
use Rattle.records.specs.declared.limits.Limit.{Limit}
use Rattle.records.specs.declared.limits.Figure.{Figure}
use Rattle.records.specs.declared.limits.Figure.TheVariants.{ChordDiameter, ChordWall, NominalWall, ChordYield, BraceDiameter, BraceWall, BraceYield, Sine, Gap, CanLength, ShareK, ShareY, ShareX, AxialRatio, InPlaneRatio, OutOfPlaneRatio}
use Rattle.records.specs.declared.limits.Misfit.{Misfit}
use Rattle.records.specs.declared.limits.Misfit.TheVariants.{Outside, SharesSum}

abbrev pub limit : Figure → ℤ → ℤ → ℤ → Limit
limit x a v b = record { figure = x; low = a; value = v; high = b }

abbrev pub outside : Limit → Bool
outside l = int_lt l.value l.low || int_lt l.high l.value

unfoldable pub first_figure_outside : List Limit → Option Figure
first_figure_outside [] = None
first_figure_outside (l ∷ ls) = cond (outside l) (Some l.figure) (first_figure_outside ls)

-- D from 200 to 4,000; T at least 60, with 2 T ≤ D ≤ 10 T; Tn with T ≤ 2 Tn ≤ 2 T; fy from 200 to 500.
-- A wall above 2,000 is more than half of every diameter.
abbrev pub chord_limits : ChordFigures → List Limit
chord_limits f =
    limit ChordDiameter (pos 200) f.diameter (pos 4000) ∷
    limit ChordWall (pos 60) f.wall (pos 2000) ∷
    limit ChordWall (pos 2 *ℤ f.wall) f.diameter (pos 10 *ℤ f.wall) ∷
    limit NominalWall f.wall (pos 2 *ℤ f.nominal) (pos 2 *ℤ f.wall) ∷
    limit ChordYield (pos 200) f.fy (pos 500) ∷
    []

-- d with D ≤ 5 d ≤ 5 D; t with T ≤ 4 t ≤ 8 T; fyb from 200 to 500; s from 500,000 to 1,000,000; g with −3 D ≤ 5 g and g ≤ 4,000;
-- Lc from 1 to 20,000; each share from 0 to 1,000.
abbrev pub brace_limits : Chord → BraceFigures → List Limit
brace_limits c f =
    limit BraceDiameter (pos c.diameter) (pos 5 *ℤ f.brace) (pos 5 *ℤ pos c.diameter) ∷
    limit BraceWall (pos c.wall) (pos 4 *ℤ f.thickness) (pos 8 *ℤ pos c.wall) ∷
    limit BraceYield (pos 200) f.fyb (pos 500) ∷
    limit Sine (pos 500000) f.sine (pos 1000000) ∷
    limit Gap (neg_ℤ (pos 3) *ℤ pos c.diameter) (pos 5 *ℤ f.gap) (pos 5 *ℤ pos 4000) ∷
    limit CanLength (pos 1) f.length (pos 20000) ∷
    limit ShareK (pos 0) f.k (pos 1000) ∷
    limit ShareY (pos 0) f.y (pos 1000) ∷
    limit ShareX (pos 0) f.x (pos 1000) ∷
    []

abbrev pub ratio_limits : RatioFigures → List Limit
ratio_limits f =
    limit AxialRatio (negsuc 9999) f.p (pos 10000) ∷
    limit InPlaneRatio (negsuc 9999) f.mi (pos 10000) ∷
    limit OutOfPlaneRatio (negsuc 9999) f.mo (pos 10000) ∷
    []

abbrev pub shares_sum : BraceFigures → ℤ
shares_sum f = (f.k +ℤ f.y) +ℤ f.x

-- The figures come before the sum of the shares, which is 1,000.
abbrev pub sum_fault : ℤ → Option Misfit
sum_fault s = cond (int_lt s (pos 1000) || int_lt (pos 1000) s) (Some (SharesSum s)) None

abbrev pub fault_of : Option Figure → ℤ → Option Misfit
fault_of (Some x) s = Some (Outside x)
fault_of None s = sum_fault s

abbrev pub brace_fault : Chord → BraceFigures → Option Misfit
brace_fault c f = fault_of (first_figure_outside (brace_limits c f)) (shares_sum f)

-- What a constructor answers: the record, or the fault that the figures have.
abbrev pub RefusedBy : {T E : Type 0} → Option E → Result T E → Type 0
RefusedBy why r = MatchResult r (λ _. why ≡ None) (λ e. why ≡ Some e)

pub record IsChord (c : Chord) (f : ChordFigures) : Type 0 where
  pub diameter : pos c.diameter ≡ f.diameter
  pub wall : pos c.wall ≡ f.wall
  pub nominal : pos c.nominal ≡ f.nominal
  pub fy : pos c.fy ≡ f.fy

pub record IsBrace (b : BraceRecord) (c : Chord) (f : BraceFigures) : Type 0 where
  pub diameter : b.diameter ≡ c.diameter
  pub wall : b.wall ≡ c.wall
  pub fy : b.fy ≡ c.fy
  pub brace : pos b.brace ≡ f.brace
  pub thickness : pos b.thickness ≡ f.thickness
  pub fyb : pos b.fyb ≡ f.fyb
  pub sine : pos b.sine ≡ f.sine
  pub gap : b.gap ≡ f.gap
  pub nominal : b.can.nominal ≡ c.nominal
  pub length : pos b.can.length ≡ f.length
  pub k : pos b.shares.k ≡ f.k
  pub y : pos b.shares.y ≡ f.y
  pub x : pos b.shares.x ≡ f.x

pub record IsRatios (q : Ratios) (f : RatioFigures) : Type 0 where
  pub p : q.p ≡ f.p
  pub mi : q.mi ≡ f.mi
  pub mo : q.mo ≡ f.mo
