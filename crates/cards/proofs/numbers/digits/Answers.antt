use Rattle.std.proofs.Common.{◌≡◌, ◌-◌, get_or, arith}
use Rattle.std.specs.Char.{digit_value as digitValue}
use Rattle.std.proofs.lemmas.Int.Digits.{digits_value_more, digits_more}
use Rattle.cards.proofs.Signs.{front_small, digit_value, no_digit}
use Rattle.cards.proofs.numbers.digits.Goals as goal

pub overflow_mul-n : goal.overflow_mul-n
overflow_mul-n c = omega (arith, front_small c.args.field.now c.loop-b.b-index c.loop-b-test.true c.if-field-gt-MOST_DIGITS.false c.loop-b.invariant.1)

pub overflow_add-n : goal.overflow_add-n
overflow_add-n c = omega (arith, front_small c.args.field.now c.loop-b.b-index c.loop-b-test.true c.if-field-gt-MOST_DIGITS.false c.loop-b.invariant.1)

pub returns-in_default : goal.returns-in_default
returns-in_default c = λ d _. no_digit c.args.field.now c.loop-b.b-index c.loop-b-test.true (λ i. omega arith) d

pub returns-in_default-2 : goal.returns-in_default-2
returns-in_default-2 c = λ d _. no_digit c.args.field.now c.loop-b.b-index c.loop-b-test.true (λ i. omega arith) d

pub loop-b-preserved : goal.loop-b-preserved
loop-b-preserved c =
    let bs = c.args.field.now in
    let i = c.loop-b.b-index in
    let dv : digitValue (get_or bs i 0) ≡ get_or bs i 0 - 48 = digit_value (get_or bs i 0) (omega arith) (omega arith) in
    (omega (arith, digits_value_more 10 bs i c.loop-b-test.true), digits_more 10 bs i c.loop-b-test.true c.loop-b.invariant.1 (omega arith))
