use Rattle.cards.proofs.Cuts.{few_from}
use Rattle.cards.proofs.pieces.Pieces.parted.Goals as goal

pub invariant_of-result-clause-few : goal.invariant_of-result-clause-few
invariant_of-result-clause-few c = few_from c.args.mark c.args.last c.args.bytes.now 0
