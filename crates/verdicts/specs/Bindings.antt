-- What a verdict says to the reckoners, whatever strengths they take.
--
--     Cautious m b n f       f has no strength in use that is above the edition's
--     Bold m b n f           f has no strength in use that is below the edition's
--     Between m b n found low high    what a cautious reckoner finds is at least low millionths, and what a bold one finds at most high
--     Enclosing m b n e      the ends e lie so about the utilisation, in their order, and are at most a 400th of the lower and 20
--                            millionths apart
--     Passing, Failing, Nearing, Faring, Binds    what each verdict says
--     FirstSpent m b n k     k is the first kind in use for which the chord is spent
--     NoneSpent m b n        there is none
--     Reckoners m b n        there are a cautious and a bold reckoner, so that no promise to them is empty
--
-- Assumes nothing.
use Rattle.std.specs.Prelude.{◌≡◌, ℕ, ◌+◌, ◌*◌, ◌<◌, ◌≤◌, true, false}
use Rattle.powers.specs.Fractions.{Fraction, ◌≤ᶠ◌, ◌<ᶠ◌}
use Rattle.verdicts.specs.Reckoners.{whole_number, Strengths, InUse, ratio, utilisation}
use Rattle.records.specs.Kinds.{number}
use Rattle.editions.specs.Meanings.{Meaning, millionths}
use Rattle.records.specs.declared.kind.Kind.{Kind}
use Rattle.records.specs.declared.record.BraceRecord.{BraceRecord}
use Rattle.verdicts.specs.declared.force.Force.{Force}
use Rattle.verdicts.specs.declared.verdict.Part.{Part}
use Rattle.verdicts.specs.declared.verdict.Ends.{Ends}
use Rattle.verdicts.specs.declared.verdict.Verdict.{Verdict}
use Rattle.verdicts.specs.declared.verdict.Verdict.TheVariants.{Pass, Fail, Near, Far}

-- A reckoner who never takes more than a strength, and one who never takes less.
abbrev pub Cautious : Meaning → BraceRecord → Force → Strengths → Type 0
Cautious m b n f = (k : Kind) → InUse b n k → m.notAbove b n.ratios k (f k)

abbrev pub Bold : Meaning → BraceRecord → Force → Strengths → Type 0
Bold m b n f = (k : Kind) → InUse b n k → m.notBelow b n.ratios k (f k)

-- The ends lie on either side of what the reckoners find.
pub record Between (m : Meaning) (b : BraceRecord) (n : Force) (found : Strengths → Fraction) (low high : ℕ) : Type 0 where
  pub cautious : (f : Strengths) → Cautious m b n f → millionths low ≤ᶠ found f
  pub bold : (f : Strengths) → Bold m b n f → found f ≤ᶠ millionths high

-- Ends of the utilisation.
pub record Enclosing (m : Meaning) (b : BraceRecord) (n : Force) (e : Ends) : Type 0 where
  pub between : Between m b n (utilisation b n) e.low e.high
  pub ordered : e.low ≤ e.high
  pub close : e.high * 400 ≤ e.low * 401 + 8000

pub record Passing (m : Meaning) (b : BraceRecord) (n : Force) (e : Ends) : Type 0 where
  pub ends : Enclosing m b n e
  pub side : e.high ≤ 1000000
  pub bold : (f : Strengths) → Bold m b n f → utilisation b n f ≤ᶠ whole_number 1

pub record Failing (m : Meaning) (b : BraceRecord) (n : Force) (e : Ends) : Type 0 where
  pub ends : Enclosing m b n e
  pub side : 1000000 < e.low
  pub cautious : (f : Strengths) → Cautious m b n f → whole_number 1 <ᶠ utilisation b n f

pub record Nearing (m : Meaning) (b : BraceRecord) (n : Force) (e : Ends) : Type 0 where
  pub ends : Enclosing m b n e
  pub lower : e.low ≤ 1000000
  pub upper : 1000000 < e.high

pub record Faring (m : Meaning) (b : BraceRecord) (n : Force) (p : Part) : Type 0 where
  pub ten : (f : Strengths) → Cautious m b n f → whole_number 10 <ᶠ ratio b n p f
  pub cautious : (f : Strengths) → Cautious m b n f → whole_number 1 <ᶠ utilisation b n f

-- What a verdict says to the reckoners.
abbrev pub Binds : Meaning → BraceRecord → Force → Verdict → Type 0
Binds m b n (Pass e) = Passing m b n e
Binds m b n (Fail e) = Failing m b n e
Binds m b n (Near e) = Nearing m b n e
Binds m b n (Far p) = Faring m b n p

-- The first kind in use for which the chord is spent.
pub record FirstSpent (m : Meaning) (b : BraceRecord) (n : Force) (k : Kind) : Type 0 where
  pub used : InUse b n k
  pub spent : m.spent b n.ratios k ≡ true
  pub first : (j : Kind) → number j < number k → InUse b n j → m.spent b n.ratios j ≡ false

abbrev pub NoneSpent : Meaning → BraceRecord → Force → Type 0
NoneSpent m b n = (k : Kind) → InUse b n k → m.spent b n.ratios k ≡ false

-- There are such reckoners: no promise to them is empty.
pub record Reckoners (m : Meaning) (b : BraceRecord) (n : Force) : Type 0 where
  pub careful : Strengths
  pub is_careful : Cautious m b n careful
  pub daring : Strengths
  pub is_daring : Bold m b n daring
