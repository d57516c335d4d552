use Rattle.std.proofs.Common.{SFits, w64, rules, refl, inr, arith, lit≤}
use Rattle.std.proofs.lemmas.Int.{to_z-of_z}
use Rattle.powers.specs.Fractions.{number}
use Rattle.powers.specs.Formulas.{constant}
use Rattle.powers.specs.Enclosures.{Near, milli}
use Rattle.powers.proofs.Laws.{le_refl, pow_one, weaken}
use Rattle.records.specs.Signs.{apart}
use Rattle.editions.specs.Figures.{of_diameter}
use Rattle.editions.proofs.Terms.{is_same}
use Rattle.editions.proofs.iso_factors.gap_value.Goals as goal

pub returns : goal.returns
returns c =
    let r = c.args.r.now in
    let fits : SFits w64 r.gap = search rules in
    let g = simp to_z-of_z at c.above-g.ensures in
    let one = c.exact-one.ensures.near (number 1 1) (milli 1000) (milli 1000) refl (lit≤ tt) (lit≤ tt) tt tt in
    let start = c.exact-start.ensures.near (number 19 10) (milli 1900) (milli 1901) refl (lit≤ tt) (lit≤ tt) tt tt in
    let root = c.square_root-root.ensures.near (of_diameter r (apart r.gap)) (milli 141) (milli 901) (is_same g refl) (omega arith) (omega arith) tt (omega arith) in
    weaken (c.greater_of.ensures.near (c.sub-rest.ensures.near start root tt) one) (tt, tt, tt)

pub returns-then-r-g : goal.returns-then-r-g
returns-then-r-g c =
    let r = c.args.r.now in
    let fits : SFits w64 r.gap = search rules in
    let g = simp to_z-of_z at c.above-g.ensures in
    let one : Near c.exact-one.result (constant (number 1 1)) (milli 999) (milli 1800) 20 =
    weaken (c.exact-one.ensures.near (number 1 1) (milli 1000) (milli 1000) refl (lit≤ tt) (lit≤ tt) tt tt) (tt, tt, tt) in
    let h = one.high.across in
    record {
      low = inr one.low;
      high = ((number 19 10, number 9 10, le_refl, record { across = simp pow_one (omega arith) }, record { across = omega arith }), one.high);
      least = one.least;
      most = one.most;
      tight = one.tight;
    }
