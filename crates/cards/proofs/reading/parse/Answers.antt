use Rattle.std.proofs.Common.{◌≡◌, ◌+◌, ◌≤◌, true, ◌∷◌, length, sym, ap, ◌∙◌, arith}
use Rattle.cards.specs.Pieces.{fields_of}
use Rattle.cards.specs.Words.{count}
use Rattle.cards.specs.Readers.{left}
use Rattle.cards.proofs.Cuts.{few}
use Rattle.cards.proofs.Shapes.{too_long, no_field, no_word, wrong_count, numbered}
use Rattle.cards.proofs.reading.parse.Goals as goal

pub returns-then-line-gt120 : goal.returns-then-line-gt120
returns-then-line-gt120 c = too_long c.args.ready c.args.line.now c.if-line-gt120.true

pub returns-in_default : goal.returns-in_default
returns-in_default c = no_field c.args.ready c.args.line.now c.if-line-gt120.false (sym c.fields-fields.ensures.1 ∙ c.in_default.ensures.steps.0)

pub returns-in_default-placed_word : goal.returns-in_default-placed_word
returns-in_default-placed_word c =
    no_word c.args.ready c.args.line.now c.in-Some.first.bytes.now (left c.next.new.self) c.if-line-gt120.false (sym c.fields-fields.ensures.1 ∙ c.in-Some.ensures.steps.first) (sym c.in_default-placed_word.ensures)

pub overflow_cast-result : goal.overflow_cast-result
overflow_cast-result c =
    let at_most : length (fields_of c.args.line.now) ≤ length c.args.line.now + 1 = few 44 true c.args.line.now in
    omega (arith, at_most, c.count_fields-count.ensures)

pub returns-then-count : goal.returns-then-count
returns-then-count c =
    wrong_count c.args.ready c.args.line.now c.in-Some.first.bytes.now (left c.next.new.self) c.if-line-gt120.false (sym c.fields-fields.ensures.1 ∙ c.in-Some.ensures.steps.first) c.in-Some-placed_word.word (sym c.in-Some-placed_word.ensures) c.count_fields-count.result c.count_fields-count.ensures
    (λ e. c.if-count.true (e ∙ sym c.count.ensures))

pub returns : goal.returns
returns c =
    let line = c.args.line.now in
    let split : fields_of line ≡ c.in-Some.first.bytes.now ∷ left c.next.new.self = sym c.fields-fields.ensures.1 ∙ c.in-Some.ensures.steps.first in
    let counted : length (fields_of line) ≡ count c.in-Some-placed_word.word = sym c.count_fields-count.ensures ∙ c.if-count.false ∙ c.count.ensures in
    c.card.ensures (omega (arith, ap length split, counted)) ∙ sym (numbered c.args.ready line c.in-Some.first.bytes.now (left c.next.new.self) c.if-line-gt120.false split c.in-Some-placed_word.word (sym c.in-Some-placed_word.ensures) counted)
