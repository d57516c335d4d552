use Rattle.std.proofs.Common.{arith, rules, ltb-false, ltb-true}
use Rattle.cards.proofs.Signs.{reads, none_empty, none_zero, zero_text}
use Rattle.cards.proofs.numbers.plain_number.Goals as goal

pub returns-in-empty : goal.returns-in-empty
returns-in-empty c = none_empty c.args.field.now (omega (arith, ltb-true))

pub returns-in-48 : goal.returns-in-48
returns-in-48 c = zero_text c.args.field.now (omega (arith, ltb-true, ltb-false)) (omega arith)

pub returns-in-48-2 : goal.returns-in-48-2
returns-in-48-2 c = none_zero c.args.field.now (omega (arith, ltb-true, ltb-false)) (search rules)

pub returns-in_default : goal.returns-in_default
returns-in_default c = reads c.args.field.now c.digits.result (omega (arith, ltb-true, ltb-false)) (λ z. search rules) c.digits.ensures
