use Rattle.std.proofs.Common.{◌*◌, arith}
use Rattle.verdicts.proofs.Sizes.{quotient_order, quotient_near}
use Rattle.verdicts.proofs.reckon.ratio.Goals as goal

pub invariant_of-result : goal.invariant_of-result
invariant_of-result c =
    let load = c.args.load * c.args.brace.now.sine * 100000000000 in
    let r = c.args.by in
    rw c.div_ceil.ensures (record {
      ordered = quotient_order load r.low r.high (omega arith) r.ordered;
      near = quotient_near load r.low r.high (omega arith) r.ordered r.near;
    })
