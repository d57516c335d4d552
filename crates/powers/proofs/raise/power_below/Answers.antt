use Rattle.std.proofs.Common.{◌≡◌, ℕ, ◌+◌, ◌*◌, ◌^◌, ◌<◌, ◌≤◌, Bool, cond, refl, subst, arith, le-leb}
use borrow.Author.Tests.{lt-leb}
use Rattle.powers.specs.Fractions.{Fraction}
use Rattle.powers.specs.Enclosures.{Is}
use Rattle.powers.specs.Digits.{Reached}
use Rattle.powers.proofs.RootLaws.{as_fraction}
use Rattle.powers.proofs.Walks.{double, begin, few_digits, from_one, up_to_64, ordered, finish}
use Rattle.powers.proofs.raise.power_below.Goals as goal
use Rattle.powers.proofs.raise.power_below.Goals.{then-digit, else-digit, After-mul-above}

pub loop-j-init : goal.loop-j-init
loop-j-init c = (omega arith, (0, (λ q from to h. h), omega arith))

pub loop-j-preserved : goal.loop-j-preserved
loop-j-preserved c =
    let k = c.loop-j.invariant.1.0 in
    let j = c.loop-j.j in
    let e = c.loop-j.invariant.1.2 in
    let few : j < 32 = omega arith in
    let small : k < 2 ^ j = few_digits c.args.exponent.num c.args.exponent.den k j c.loop-j.rest (omega arith) e in
    elim c.if-digit.branch [
      | then-digit w ↦ (
        omega (arith, w.rest-is),
        (
          2 * k + 1,
          (λ q from to h. subst (λ (b : Bool). Reached c.step-at.result q (2 * k + cond b 1 0) (j + 1)) (le-leb _ _ w.if-digit.true) (c.step-at.ensures.reached q k j from to few small (c.loop-j.invariant.1.1 q from to h))),
          rw (double j) (omega (arith, w.rest-is, w.if-digit.true)),
        ),
      )
      | else-digit w ↦ (
        omega (arith, w.rest-is, w.if-digit.false),
        (
          2 * k + 0,
          (λ q from to h. subst (λ (b : Bool). Reached c.step-at.result q (2 * k + cond b 1 0) (j + 1)) (lt-leb _ _ w.if-digit.false) (c.step-at.ensures.reached q k j from to few small (c.loop-j.invariant.1.1 q from to h))),
          rw (double j) (omega (arith, w.rest-is)),
        ),
      )
    ]

module _ (c : goal.After-mul-above) where
  k : ℕ
  k = c.loop-j.invariant.1.0

  last : c.loop-j.j ≡ 32
  last = omega arith

  digits : c.args.exponent.num * 2 ^ 32 ≡ c.loop-j.invariant.1.0 * c.args.exponent.den + c.loop-j.rest
  digits = subst (λ (x : ℕ). c.args.exponent.num * 2 ^ x ≡ c.loop-j.invariant.1.0 * c.args.exponent.den + c.loop-j.rest) last c.loop-j.invariant.1.2

  from : c.args.base.den ≤ c.args.base.num
  from = c.if-base.false

  to : c.args.base.num ≤ 64 * c.args.base.den
  to = c.if-base-2.false

  reached : (q : Fraction) → Is q c.args.base → Reached c.loop-j.at q c.loop-j.invariant.1.0 32
  reached q same = subst (λ (x : ℕ). Reached c.loop-j.at q c.loop-j.invariant.1.0 x) last
      (c.loop-j.invariant.1.1 q (from_one q c.args.base same from) (up_to_64 q c.args.base same to)
      (begin c.args.base c.exact-start.result _ q refl refl same from to c.exact-start.ensures))

pub invariant_of-result-2 : goal.invariant_of-result-2
invariant_of-result-2 c =
    let d = (goal.at.invariant_of-result-2 c).After-mul-above in
    let q = as_fraction c.args.base in
    record {
      ordered = ordered q c.args.exponent (as_fraction c.args.exponent) c.loop-j.at c.mul-above.result c.loop-j.invariant.1.0 c.loop-j.rest refl
          (from d) (to d) (omega arith) (digits d) c.loop-j.invariant.0 (reached d q refl) c.mul-above.ensures;
    }

pub returns : goal.returns
returns c = record {
  beyond = λ h. absurd (h (record { least = from (goal.at.returns c).After-mul-above; most = to (goal.at.returns c).After-mul-above; below = omega arith }));
  near = λ q e s t _.
      let d = (goal.at.returns c).After-mul-above in
      finish q c.args.exponent e c.loop-j.at c.mul-above.result c.loop-j.invariant.1.0 c.loop-j.rest t
      (from_one q c.args.base s (from d)) (up_to_64 q c.args.base s (to d)) (omega arith) (digits d) c.loop-j.invariant.0 (reached d q s) c.mul-above.ensures _ refl refl;
}
