use Rattle.std.proofs.Common.{arith, rules}
use borrow.Author.Differences.{ints}
use Rattle.records.specs.Limits.{chord_limits}
use Rattle.records.proofs.Limited.{Holding, held, Whole, cast_is, casts}
use Rattle.records.proofs.record.Chord.new.Goals as goal
use Rattle.records.proofs.record.Chord.new.Goals.{In_ok-within}

module _ (c : goal.In_ok-within) where
  limits : Holding (chord_limits c.args.f)
  limits = held (chord_limits c.args.f) (rw c.limits.ensures at c.in_ok-within.ensures)

  diameter : Whole c.args.f.diameter
  diameter = let h = limits in record { fits = search rules; from = omega (arith, ints) }

  wall : Whole c.args.f.wall
  wall = let h = limits in record { fits = search rules; from = omega (arith, ints) }

  nominal : Whole c.args.f.nominal
  nominal = let h = limits in record { fits = search rules; from = omega (arith, ints) }

  fy : Whole c.args.f.fy
  fy = let h = limits in record { fits = search rules; from = omega (arith, ints) }

pub overflow_cast-result : goal.overflow_cast-result
overflow_cast-result c = casts (diameter (goal.at.overflow_cast-result c).In_ok-within)

pub overflow_cast-result-2 : goal.overflow_cast-result-2
overflow_cast-result-2 c = casts (wall (goal.at.overflow_cast-result-2 c).In_ok-within)

pub overflow_cast-result-3 : goal.overflow_cast-result-3
overflow_cast-result-3 c = casts (nominal (goal.at.overflow_cast-result-3 c).In_ok-within)

pub overflow_cast-result-4 : goal.overflow_cast-result-4
overflow_cast-result-4 c = casts (fy (goal.at.overflow_cast-result-4 c).In_ok-within)

pub invariant_of-result : goal.invariant_of-result
invariant_of-result c =
    let at = (goal.at.invariant_of-result c).In_ok-within in
    let h = limits at in
    let d = cast_is (diameter at) in
    let t = cast_is (wall at) in
    let n = cast_is (nominal at) in
    let y = cast_is (fy at) in
    record {
      size = (omega (arith, ints), omega (arith, ints));
      thick = (omega (arith, ints), omega (arith, ints), omega (arith, ints));
      thinned = (omega (arith, ints), omega (arith, ints));
      strong = (omega (arith, ints), omega (arith, ints));
    }

pub returns-clause-is : goal.returns-clause-is
returns-clause-is c =
    let at = (goal.at.returns-clause-is c).In_ok-within in
    record { diameter = cast_is (diameter at); wall = cast_is (wall at); nominal = cast_is (nominal at); fy = cast_is (fy at) }
