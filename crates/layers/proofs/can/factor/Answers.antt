use Rattle.std.proofs.Common.{◌*◌, ◌≤◌, mul-le-mul, arith}
use Rattle.layers.specs.Layers.{can_ratio, can_share, at_most_one}
use Rattle.layers.specs.Layering.{blend_is, blend_least, blend_most}
use Rattle.layers.proofs.can.factor.Goals as goal

pub invariant_of-result-2 : goal.invariant_of-result-2
invariant_of-result-2 c =
    let r = c.args.r.now in
    let s = c.at_most_one.result in
    let h = r.thinned in
    let hi : r.can.nominal * r.can.nominal ≤ r.wall * r.wall = mul-le-mul h.1 h.1 in
    record { most = blend_most s.quotient.num s.quotient.den _ _ s.most (omega arith) }

pub returns-clause-is : goal.returns-clause-is
returns-clause-is c =
    let r = c.args.r.now in
    let s = c.at_most_one.result in
    let is = c.at_most_one.ensures.is (can_ratio r) c.ratio.ensures.is in
    blend_is s.quotient.num s.quotient.den (can_share r).num (can_share r).den (r.can.nominal * r.can.nominal) (r.wall * r.wall) is s.most (at_most_one (can_ratio r))

pub returns-clause-least : goal.returns-clause-least
returns-clause-least c =
    let r = c.args.r.now in
    let s = c.at_most_one.result in
    let h = r.thinned in
    let lo : r.wall * r.wall ≤ (2 * r.can.nominal) * (2 * r.can.nominal) = mul-le-mul h.0 h.0 in
    blend_least s.quotient.num s.quotient.den (r.can.nominal * r.can.nominal) (r.wall * r.wall) s.most (omega arith)
