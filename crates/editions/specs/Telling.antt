-- From the ends of a factor to what an edition tells, once for every table of formulas.
-- Here and not in proofs/, since an impl's law has to cite them; a reader of the promises needs none of it. Assumes nothing.
use Rattle.std.specs.Prelude.{ℕ, ◌+◌, ◌*◌, ◌^◌, ◌≤◌, Some}
use Rattle.std.proofs.Common.{arith}
use Rattle.powers.specs.declared.ends.Ends.{Ends}
use Rattle.powers.specs.declared.quotient.Quotient.{Quotient}
use Rattle.powers.specs.Formulas.{Formula, constant, ◌⊗◌}
use Rattle.powers.specs.Enclosures.{Near, units, milli, Exact, Product}
use Rattle.powers.proofs.Laws.{meet, less, more, weaken, bound_is, bound_is_above}
use Rattle.records.specs.declared.kind.Kind.{Kind}
use Rattle.records.specs.declared.ratios.Ratios.{Ratios}
use Rattle.records.specs.declared.record.BraceRecord.{BraceRecord}
use Rattle.editions.specs.declared.strength.Strength.{Strength}
use Rattle.editions.specs.Factors.{Factor}
use Rattle.editions.specs.Chords.{ChordFactor, as_fraction, Left}
use Rattle.editions.specs.Meanings.{Lawful, Tells, Millionths, Fine, millionths, bare, bare_strength}

-- a factor times Qf
pub strength_near : {f y z : Ends} {φ : Formula} (c : ChordFactor) (w : Quotient) → Factor f φ → Exact w y → Product f y z → Left c w → Near z (φ ⊗ constant (as_fraction c)) (milli 133) (milli 1999000) 950000
strength_near c w hf hy hz l =
    let i = bound_is 1 10 (as_fraction c) w l.is (omega (arith, l.least)) in
    let j = bound_is_above 1 2 (as_fraction c) w l.is (omega (arith, l.most)) in
    weaken (hz.near hf (hy.near (as_fraction c) (milli 100) (milli 2000) l.is (omega arith) (omega arith) tt tt) (tt, tt, tt, tt)) (tt, tt, tt)

fine_of : (zl zh l h : ℕ) → zh * 2 ^ 40 ≤ zl * (2 ^ 40 + 950000) → zl * 1000000 ≤ (l + 1) * 2 ^ 40 → h * 2 ^ 40 ≤ zh * 1000000 + 2 ^ 40 → h * 1000000 ≤ l * 1000001 + 3000000
fine_of zl zh l h t a b = omega arith

module _ (factor : BraceRecord → Kind → Formula) (chord : BraceRecord → Ratios → Kind → ChordFactor) where
  pub bare_lawful : Lawful (bare factor chord)
  bare_lawful = record {
    between = λ r q k f g. meet (bare_strength factor chord r q k) f.value g.value;
    down = λ r q k f g. less (bare_strength factor chord r q k) f.value g.value;
    up = λ r q k f g. more (bare_strength factor chord r q k) f.value g.value;
  }

  module _ (r : BraceRecord) (q : Ratios) (k : Kind) (z : Ends) (w : Quotient) (left : Left (chord r q k) w) (n : Near z (bare_strength factor chord r q k) (milli 133) (milli 1999000) 950000) where
    pub bare_fine : (s : Strength) → Millionths z s → Fine (Some s)
    bare_fine s (el, eh) = omega (arith, fine_of z.low z.high s.low s.high n.tight (omega arith) (omega arith))

    pub bare_tells : (s : Strength) → Millionths z s → Tells (bare factor chord) r q k (Some s)
    bare_tells s (el, eh) =
        let l = s.low in
        let h = s.high in
        let o = z.ordered in
        let a = n.least in
        let b = n.most in
        let f = fine_of z.low z.high l h n.tight (omega arith) (omega arith) in
        let firm : 100000 ≤ s.low = omega arith in
        let order : s.low ≤ s.high = omega arith in
        record {
          unspent = left.unspent;
          under = λ p. less (bare_strength factor chord r q k) (millionths l) (units z.low) (record { across = omega arith }) n.low;
          positive = omega arith;
          over = more (bare_strength factor chord r q k) (units z.high) (millionths h) (record { across = omega arith }) n.high;
          floored = firm;
          ordered = order;
          bounded = omega arith;
          close = λ u. omega arith;
        }
