use Rattle.std.proofs.Common.{subst}
use Rattle.cards.specs.Numbers.{number_in}
use Rattle.cards.specs.Texts.{ReadsSigned}
use Rattle.cards.proofs.Signs.{exact}
use Rattle.cards.proofs.Plain.{number_reads, one_signed}
use Rattle.cards.proofs.numbers.number.Goals as goal

pub returns : goal.returns
returns c =
    let bs = c.args.field.now in
    let r = c.signed_number.result in
    record {
      is = one_signed bs r (number_in bs) c.signed_number.ensures (number_reads bs);
      written = λ z e. subst (ReadsSigned bs) e c.signed_number.ensures;
      read = λ z t. exact bs r z c.signed_number.ensures t;
    }
