use Rattle.std.proofs.Common.{◌≡◌, false, leb, length, is_some, Some, vec_items, refl, ap, ◌∙◌, rules}
use Rattle.ledger.specs.Ledger.{find, holding, is_joint, number_from, figure_cause}
use Rattle.ledger.proofs.Steps.{enter_limits}
use Rattle.ledger.proofs.tables.Tables.enter.Goals as goal

pub returns : goal.returns
returns c =
    let number : number_from c.args.joint ≡ Some c.in_ok-number.number = search rules in
    let free : is_some (find (is_joint c.in_ok-number.number) (vec_items c.args.self.now.joints)) ≡ false = search rules in
    let room : leb 16 (length (vec_items c.args.self.now.joints)) ≡ false = search rules in (
      enter_limits c.args.joint c.args.figures (holding c.args.self.now) c.in_ok-number.number number free room ∙ ap figure_cause c.in_ok-chord.ensures.fault,
      record {
        number = c.in_ok-number.number;
        chord = c.in_ok-chord.chord;
        numbered = number;
        is = c.in_ok-chord.ensures.is;
        joints = c.push_reserved.ensures.items;
        braces = refl;
      },
    )
