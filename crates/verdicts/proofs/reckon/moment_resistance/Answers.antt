use Rattle.std.proofs.Common.{◌*◌, ◌≤◌, mul-le-mul, mul-le-mul_left, arith}
use Rattle.verdicts.proofs.Sizes.{scaled_near}
use Rattle.verdicts.proofs.reckon.moment_resistance.Goals as goal

pub invariant_of-result : goal.invariant_of-result
invariant_of-result c =
    let b = c.args.brace.now in
    let s = c.args.strength in
    let wide : 40 ≤ b.brace = omega arith in
    let slim : b.brace ≤ 4000 = omega arith in
    let least = mul-le-mul (mul-le-mul c.base.ensures.least wide) s.firm in
    let most = mul-le-mul (mul-le-mul c.base.ensures.most slim) s.top in
    record {
      firm = omega (arith, least);
      ordered = mul-le-mul_left (c.base.result * b.brace) s.ordered;
      top = omega (arith, most);
      near = scaled_near (c.base.result * b.brace) _ _ s.near;
    }
