use Rattle.std.proofs.Common.{◌≡◌, None, arith, rules, ltb-false, ltb-true}
use Rattle.std.proofs.lemmas.Int.{ints}
use Rattle.cards.proofs.Signs.{neg_zero, neg_none, neg_some}
use Rattle.cards.proofs.numbers.signed_number.Goals as goal

pub returns-in-45 : goal.returns-in-45
returns-in-45 c = neg_zero c.args.field.now (omega arith) (omega arith)

pub returns-in_ok-plain_number-in-45-2 : goal.returns-in_ok-plain_number-in-45-2
returns-in_ok-plain_number-in-45-2 c =
    let is = c.in_ok-plain_number-in-45-2.ensures in
    neg_some c.args.field.now c.in_ok-plain_number-in-45-2.field-0 _ (omega (arith, ltb-true, ltb-false)) (search rules) (λ l e. search rules) is (let small = is.0 in omega (arith, ints))

pub returns-in_err-plain_number-in-45-2 : goal.returns-in_err-plain_number-in-45-2
returns-in_err-plain_number-in-45-2 c =
    let none : c.from_residual.result ≡ None = search rules in
    rw none (neg_none c.args.field.now (search rules) c.in_err-plain_number-in-45-2.ensures)
