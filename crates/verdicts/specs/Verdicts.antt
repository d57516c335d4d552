-- What a check answers.
--
--     RatioEnds m b n p e    the ends e lie about the ratio of the part p, in their order, and are at most a thousandth of the lower and
--                            5 millionths apart
--     NonePasses a i o       no lower end passes ten
--     Tens a i o v           v is FAR exactly when some lower end passes ten, and names the first such part
--     Worked m b n v         there are such ends for the three ratios, and v is FAR exactly by them
--     Answered m b n v       no chord in use is spent, and v is worked out so and binds the reckoners, for a usable edition
--     Checked m b n a        the answer a is such a verdict, or the first kind in use for which the chord is spent
--
-- Assumes nothing.
use Rattle.std.specs.Prelude.{◌+◌, ◌*◌, ◌<◌, ◌≤◌, Ok, Err, Result}
use Rattle.editions.specs.Meanings.{Meaning, Usable}
use Rattle.records.specs.declared.record.BraceRecord.{BraceRecord}
use Rattle.verdicts.specs.declared.force.Force.{Force}
use Rattle.verdicts.specs.declared.verdict.Part.{Part}
use Rattle.verdicts.specs.declared.verdict.Part.TheVariants.{AxialForce, InPlaneMoment, OutOfPlaneMoment}
use Rattle.verdicts.specs.declared.verdict.Ends.{Ends}
use Rattle.verdicts.specs.declared.verdict.Spent.{Spent}
use Rattle.verdicts.specs.declared.verdict.Verdict.{Verdict}
use Rattle.verdicts.specs.declared.verdict.Verdict.TheVariants.{Pass, Fail, Near, Far}
use Rattle.verdicts.specs.Reckoners.{ratio}
use Rattle.verdicts.specs.Bindings.{Between, Binds, FirstSpent, NoneSpent, Reckoners}

pub record RatioEnds (m : Meaning) (b : BraceRecord) (n : Force) (p : Part) (e : Ends) : Type 0 where
  pub between : Between m b n (ratio b n p) e.low e.high
  pub ordered : e.low ≤ e.high
  pub close : e.high * 1000 ≤ e.low * 1001 + 5000

abbrev pub NonePasses : Ends → Ends → Ends → Type 0
NonePasses a i o = (a.low ≤ 10000000) × (i.low ≤ 10000000) × (o.low ≤ 10000000)

abbrev pub Tens : Ends → Ends → Ends → Verdict → Type 0
Tens a i o (Pass e) = NonePasses a i o
Tens a i o (Fail e) = NonePasses a i o
Tens a i o (Near e) = NonePasses a i o
Tens a i o (Far AxialForce) = 10000000 < a.low
Tens a i o (Far InPlaneMoment) = (a.low ≤ 10000000) × (10000000 < i.low)
Tens a i o (Far OutOfPlaneMoment) = (a.low ≤ 10000000) × (i.low ≤ 10000000) × (10000000 < o.low)

pub record Worked (m : Meaning) (b : BraceRecord) (n : Force) (v : Verdict) : Type 0 where
  pub axial : Ends
  pub inner : Ends
  pub outer : Ends
  pub axially : RatioEnds m b n AxialForce axial
  pub innerly : RatioEnds m b n InPlaneMoment inner
  pub outerly : RatioEnds m b n OutOfPlaneMoment outer
  pub tens : Tens axial inner outer v

pub record Answered (m : Meaning) (b : BraceRecord) (n : Force) (v : Verdict) : Type 0 where
  pub unspent : NoneSpent m b n
  pub reckoners : Usable m → Reckoners m b n
  pub worked : Usable m → Worked m b n v
  pub binds : Usable m → Binds m b n v

-- What a check answers.
abbrev pub Checked : Meaning → BraceRecord → Force → Result Verdict Spent → Type 0
Checked m b n (Err s) = FirstSpent m b n s.kind
Checked m b n (Ok v) = Answered m b n v
