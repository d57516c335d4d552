use Rattle.std.proofs.Common.{mul-le-mul, mul-le-mul_left, arith}
use Rattle.verdicts.proofs.Sizes.{sum_least, sum_most, sum_order, sum_near, scaled_near, sized_at}
use Rattle.verdicts.proofs.reckon.axial_resistance.Goals as goal

pub invariant_of-result : goal.invariant_of-result
invariant_of-result c =
    let b = c.args.brace.now in
    let s = c.args.c.now in
    let r = c.base-base.result in
    let least = mul-le-mul c.base-base.ensures.least (sum_least b.shares.k b.shares.y b.shares.x b.shares.whole s.k.low s.y.low s.x.low s.k.firm s.y.firm s.x.firm) in
    let most = mul-le-mul c.base-base.ensures.most (sum_most b.shares.k b.shares.y b.shares.x b.shares.whole s.k.high s.y.high s.x.high s.k.top s.y.top s.x.top) in
    let sizes = sized_at r _ _ _ _ c.shared-low.ensures c.shared-high.ensures (
      omega (arith, least),
      mul-le-mul_left r (sum_order b.shares.k b.shares.y b.shares.x s.k.low s.y.low s.x.low s.k.high s.y.high s.x.high s.k.ordered s.y.ordered s.x.ordered),
      omega (arith, most),
      scaled_near r _ _ (sum_near b.shares.k b.shares.y b.shares.x s.k.low s.y.low s.x.low s.k.high s.y.high s.x.high s.k.near s.y.near s.x.near),
    ) in
    record { firm = sizes.0; ordered = sizes.1; top = sizes.2; near = sizes.3 }
