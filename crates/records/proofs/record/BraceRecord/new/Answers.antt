use Rattle.std.proofs.Common.{◌≡◌, ◌*◌, ◌≤◌, pos, ◌+ℤ◌, nat_abs, ◌≤ℤ◌, None, refl, arith, w64, SFits, to_z, of_z, rules}
use borrow.Author.Differences.{ints}
use Rattle.std.proofs.lemmas.Int.{to_z-of_z}
use Rattle.records.specs.Signs.{apart, lap}
use Rattle.records.specs.Limits.{first_figure_outside, brace_limits, shares_sum}
use Rattle.records.proofs.Limited.{Holding, held, Whole, cast_is, casts, thousand, not_thousand, bits_thousand, thousand_bits, shares_make, natural_in, gap_in}
use Rattle.records.proofs.record.BraceRecord.new.Goals as goal
use Rattle.records.proofs.record.BraceRecord.new.Goals.{In_ok-within}

module _ (c : goal.In_ok-within) where
  none : first_figure_outside (brace_limits c.args.chord c.args.f) ≡ None
  none = rw c.limits.ensures at c.in_ok-within.ensures

  limits : Holding (brace_limits c.args.chord c.args.f)
  limits = held (brace_limits c.args.chord c.args.f) none

  gap : SFits w64 c.args.f.gap
  gap = search rules

  brace : Whole c.args.f.brace
  brace = let h = limits in record { fits = search rules; from = omega (arith, ints) }

  thickness : Whole c.args.f.thickness
  thickness = let h = limits in record { fits = search rules; from = omega (arith, ints) }

  fyb : Whole c.args.f.fyb
  fyb = let h = limits in record { fits = search rules; from = omega (arith, ints) }

  sine : Whole c.args.f.sine
  sine = let h = limits in record { fits = search rules; from = omega (arith, ints) }

  length : Whole c.args.f.length
  length = let h = limits in record { fits = search rules; from = omega (arith, ints) }

  k : Whole c.args.f.k
  k = let h = limits in record { fits = search rules; from = omega (arith, ints) }

  y : Whole c.args.f.y
  y = let h = limits in record { fits = search rules; from = omega (arith, ints) }

  x : Whole c.args.f.x
  x = let h = limits in record { fits = search rules; from = omega (arith, ints) }

  sum_fits : SFits w64 (c.args.f.k +ℤ c.args.f.y) × SFits w64 ((c.args.f.k +ℤ c.args.f.y) +ℤ c.args.f.x)
  sum_fits = let h = limits in (omega (arith, ints), omega (arith, ints))

  length_in : (1 ≤ nat_abs (to_z w64 (of_z w64 c.args.f.length))) × (nat_abs (to_z w64 (of_z w64 c.args.f.length)) ≤ 20000)
  length_in = let h = limits in natural_in 1 20000 _ c.args.f.length (cast_is length) (omega (arith, ints)) (omega (arith, ints))

  spaced : (5 * lap c.args.f.gap ≤ 3 * c.args.chord.diameter) × (apart c.args.f.gap ≤ 4000)
  spaced = let h = limits.2.2.2.2 in gap_in c.args.f.gap c.args.chord.diameter h.0 h.1

  from_sum : pos 0 ≤ℤ shares_sum c.args.f
  from_sum = let h = limits in omega (arith, ints)

pub overflow_add-sum : goal.overflow_add-sum
overflow_add-sum c =
    let d = (goal.at.overflow_add-sum c).In_ok-within in
    let kf = (k d).fits in
    let yf = (y d).fits in
    simp to_z-of_z (sum_fits d).0

pub overflow_add-sum-2 : goal.overflow_add-sum-2
overflow_add-sum-2 c =
    let d = (goal.at.overflow_add-sum-2 c).In_ok-within in
    let kf = (k d).fits in
    let yf = (y d).fits in
    let xf = (x d).fits in
    let s = (sum_fits d).0 in
    simp to_z-of_z (sum_fits d).1

pub returns-then-sum-ne1000-clause-fault : goal.returns-then-sum-ne1000-clause-fault
returns-then-sum-ne1000-clause-fault c =
    let d = (goal.at.returns-then-sum-ne1000-clause-fault c).In_ok-within in
    let kf = (k d).fits in
    let yf = (y d).fits in
    let xf = (x d).fits in
    let s = (sum_fits d).0 in
    let t = (sum_fits d).1 in
    simp to_z-of_z (rw (none d) (not_thousand (shares_sum c.args.f) (λ e. simp to_z-of_z at c.if-sum-ne1000.true (thousand_bits (shares_sum c.args.f) e))))

pub overflow_cast-shares : goal.overflow_cast-shares
overflow_cast-shares c = let d = (goal.at.overflow_cast-shares c).In_ok-within in casts (k d)

pub overflow_cast-shares-2 : goal.overflow_cast-shares-2
overflow_cast-shares-2 c = let d = (goal.at.overflow_cast-shares-2 c).In_ok-within in casts (y d)

pub overflow_cast-shares-3 : goal.overflow_cast-shares-3
overflow_cast-shares-3 c = let d = (goal.at.overflow_cast-shares-3 c).In_ok-within in casts (x d)

pub overflow_cast-can : goal.overflow_cast-can
overflow_cast-can c = let d = (goal.at.overflow_cast-can c).In_ok-within in casts (length d)

pub overflow_cast-result : goal.overflow_cast-result
overflow_cast-result c = let d = (goal.at.overflow_cast-result c).In_ok-within in casts (brace d)

pub overflow_cast-result-2 : goal.overflow_cast-result-2
overflow_cast-result-2 c = let d = (goal.at.overflow_cast-result-2 c).In_ok-within in casts (thickness d)

pub overflow_cast-result-3 : goal.overflow_cast-result-3
overflow_cast-result-3 c = let d = (goal.at.overflow_cast-result-3 c).In_ok-within in casts (fyb d)

pub overflow_cast-result-4 : goal.overflow_cast-result-4
overflow_cast-result-4 c = let d = (goal.at.overflow_cast-result-4 c).In_ok-within in casts (sine d)

pub invariant_of-shares : goal.invariant_of-shares
invariant_of-shares c =
    let d = (goal.at.invariant_of-shares c).In_ok-within in
    let kf = (k d).fits in
    let yf = (y d).fits in
    let xf = (x d).fits in
    let s = (sum_fits d).0 in
    let t = (sum_fits d).1 in
    record {
      whole =
          shares_make _ _ _ c.args.f.k c.args.f.y c.args.f.x (cast_is (k d)) (cast_is (y d)) (cast_is (x d))
          (bits_thousand (shares_sum c.args.f) t (from_sum d) (simp to_z-of_z at c.if-sum-ne1000.false));
    }

pub invariant_of-result : goal.invariant_of-result
invariant_of-result c =
    let d = (goal.at.invariant_of-result c).In_ok-within in
    let h = limits d in
    let a = cast_is (fyb d) in
    let b = cast_is (brace d) in
    let t = cast_is (thickness d) in
    let s = cast_is (sine d) in
    let gf = gap d in
    record {
      size = (omega arith, omega arith);
      thick = (omega arith, omega arith, omega arith);
      thinned = (omega arith, omega arith);
      strong = (omega arith, omega arith, omega (arith, ints), omega (arith, ints));
      slim = (omega (arith, ints), omega (arith, ints));
      walls = (omega (arith, ints), omega (arith, ints));
      steep = (omega (arith, ints), omega (arith, ints));
      spaced = simp to_z-of_z (spaced d);
      canned = length_in d;
    }

pub returns : goal.returns
returns c =
    let d = (goal.at.returns c).In_ok-within in
    let gf = gap d in
    let kf = (k d).fits in
    let yf = (y d).fits in
    let xf = (x d).fits in
    let s = (sum_fits d).0 in
    let t = (sum_fits d).1 in
    record {
      fault = rw (none d) (thousand (shares_sum c.args.f) (bits_thousand (shares_sum c.args.f) t (from_sum d) (simp to_z-of_z at c.if-sum-ne1000.false)));
      is = record {
        diameter = refl;
        wall = refl;
        fy = refl;
        nominal = refl;
        brace = cast_is (brace d);
        thickness = cast_is (thickness d);
        fyb = cast_is (fyb d);
        sine = cast_is (sine d);
        gap = simp to_z-of_z;
        length = cast_is (length d);
        k = cast_is (k d);
        y = cast_is (y d);
        x = cast_is (x d);
      };
    }
