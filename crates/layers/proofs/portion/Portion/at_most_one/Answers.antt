use Rattle.layers.specs.Layering.{beyond_one}
use Rattle.layers.proofs.portion.Portion.at_most_one.Goals as goal

pub returns-then-quotient-clause-is : goal.returns-then-quotient-clause-is
returns-then-quotient-clause-is c = λ f h. beyond_one f c.args.quotient.num c.args.quotient.den h c.args.quotient.whole c.if-quotient.true
