-- The kinds in use, as a list.
--
--     kinds_in_use b n       the kinds in use, in the order of their numbers
--     first_spent m b n      the first kind in use for which the chord is spent, if there is one
--
-- Assumes nothing.
use Rattle.std.specs.Prelude.{ℕ, cond, List, [], ◌∷◌, Option, nat_lt}
use Rattle.records.specs.declared.kind.Kind.{Kind}
use Rattle.records.specs.declared.kind.Kind.TheVariants.{KAxial, InPlane, OutOfPlane}
use Rattle.records.specs.declared.record.BraceRecord.{BraceRecord}
use Rattle.editions.specs.Meanings.{Meaning}
use Rattle.verdicts.specs.Reckoners.{tension, kind_of_y, kind_of_x}
use Rattle.verdicts.specs.declared.force.Force.{Force}
use Rattle.ledger.specs.Ledger.{find}

abbrev pub with_share : ℕ → Kind → List Kind → List Kind
with_share share k ks = cond (nat_lt 0 share) (k ∷ ks) ks

-- The axial kinds of the force's sign with a share above 0, and both moment kinds.
abbrev pub kinds_in_use : BraceRecord → Force → List Kind
kinds_in_use b n =
    with_share b.shares.k KAxial
    (with_share b.shares.y (kind_of_y (tension n.n))
    (with_share b.shares.x (kind_of_x (tension n.n))
    (InPlane ∷ OutOfPlane ∷ [])))

abbrev pub first_spent : Meaning → BraceRecord → Force → Option Kind
first_spent m b n = find (m.spent b n.ratios) (kinds_in_use b n)
