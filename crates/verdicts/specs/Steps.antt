-- What the steps of a check promise one another. The promise to callers is in Verdicts.
--
--     Sound low high             ends as a usable edition tells them
--     Trusts s o                 o is the strength s as it is told, or none where its ends are not such
--     KnownOf, Knows, Knowing    what is known of the strengths in use
--     based b w                  fy T² w, in hundredths of newtons
--     Encloses load b r e        e is the load over the resistance r, in millionths
--     Summed a i o e             e is the sum of the three ratios' ends, the one in the middle squared
--     Follows a i o v            v is the verdict that follows from them
--
-- Assumes nothing.
use Rattle.std.specs.Prelude.{◌≡◌, ℕ, ◌+◌, ◌*◌, ◌/◌, ◌<◌, ◌≤◌, false, Option, Some, None}
use Rattle.std.specs.Int.{div_ceil}
use Rattle.records.specs.declared.kind.Kind.{Kind}
use Rattle.records.specs.declared.kind.Kind.TheVariants.{KAxial, InPlane, OutOfPlane}
use Rattle.records.specs.declared.record.BraceRecord.{BraceRecord}
use Rattle.editions.specs.declared.strength.Strength.{Strength}
use Rattle.editions.specs.Meanings.{Meaning, Usable, Enclosed}
use Rattle.verdicts.specs.declared.force.Force.{Force}
use Rattle.verdicts.specs.declared.ends.Known.{Known}
use Rattle.verdicts.specs.declared.ends.Consulted.{Consulted}
use Rattle.verdicts.specs.declared.ends.Resistance.{Resistance}
use Rattle.verdicts.specs.declared.ends.Ratio.{Ratio}
use Rattle.verdicts.specs.declared.verdict.Part.TheVariants.{AxialForce, InPlaneMoment, OutOfPlaneMoment}
use Rattle.verdicts.specs.declared.verdict.Ends.{Ends}
use Rattle.verdicts.specs.declared.verdict.Verdict.{Verdict}
use Rattle.verdicts.specs.declared.verdict.Verdict.TheVariants.{Pass, Fail, Near, Far}
use Rattle.verdicts.specs.Reckoners.{tension, kind_of_y, kind_of_x}

-- Ends as a usable edition tells them.
pub record Sound (low high : ℕ) : Type 0 where
  pub firm : 10000 ≤ low
  pub ordered : low ≤ high
  pub top : high ≤ 2000000000
  pub near : high * 1000000 ≤ low * 1000700

-- A strength is taken as it is told where its ends are such.
abbrev pub Trusts : Strength → Option Known → Type 0
Trusts s (Some e) = (e.low ≡ s.low) × (e.high ≡ s.high)
Trusts s None = Sound s.low s.high → ⊥

-- What is known of a strength from its edition.
pub record KnownOf (m : Meaning) (b : BraceRecord) (n : Force) (k : Kind) (e : Known) : Type 0 where
  pub unspent : m.spent b n.ratios k ≡ false
  pub enclosed : Usable m → Enclosed m b n.ratios k e.low e.high

-- The same where there is a share of it.
abbrev pub Knows : Meaning → BraceRecord → Force → Kind → ℕ → Known → Type 0
Knows m b n k share e = 0 < share → KnownOf m b n k e

pub record Knowing (m : Meaning) (b : BraceRecord) (n : Force) (c : Consulted) : Type 0 where
  pub k : Knows m b n KAxial b.shares.k c.k
  pub y : Knows m b n (kind_of_y (tension n.n)) b.shares.y c.y
  pub x : Knows m b n (kind_of_x (tension n.n)) b.shares.x c.x
  pub inner : Knows m b n InPlane 1 c.inner
  pub outer : Knows m b n OutOfPlane 1 c.outer

-- fy T² w, in hundredths
abbrev pub based : BraceRecord → ℕ → ℕ
based b w = b.fy * (b.wall * b.wall) * w

-- A force of this size over a resistance, in millionths: 10 ^ 11 gathers the units of resistance, sine and share.
pub record Encloses (load : ℕ) (b : BraceRecord) (r : Resistance) (e : Ratio) : Type 0 where
  pub low : e.low * r.high ≤ load * b.sine * 100000000000
  pub high : load * b.sine * 100000000000 ≤ e.high * r.low

-- The ends of the sum, the one in the middle squared; no ratio's lower end passes ten.
pub record Summed (a i o : Ratio) (e : Ends) : Type 0 where
  pub axial : a.low ≤ 10000000
  pub inner : i.low ≤ 10000000
  pub outer : o.low ≤ 10000000
  pub low : e.low ≡ a.low + i.low * i.low / 1000000 + o.low
  pub high : e.high ≡ a.high + div_ceil (i.high * i.high) 1000000 + o.high

abbrev pub Follows : Ratio → Ratio → Ratio → Verdict → Type 0
Follows a i o (Pass e) = Summed a i o e × (e.high ≤ 1000000)
Follows a i o (Fail e) = Summed a i o e × (1000000 < e.low)
Follows a i o (Near e) = Summed a i o e × (e.low ≤ 1000000) × (1000000 < e.high)
Follows a i o (Far AxialForce) = 10000000 < a.low
Follows a i o (Far InPlaneMoment) = (a.low ≤ 10000000) × (10000000 < i.low)
Follows a i o (Far OutOfPlaneMoment) = (a.low ≤ 10000000) × (i.low ≤ 10000000) × (10000000 < o.low)
