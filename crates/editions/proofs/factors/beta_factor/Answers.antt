use Rattle.std.proofs.Common.{◌-◌, ◌*◌, sym, mul-le-mul, arith}
use Rattle.std.proofs.lemmas.Bool.{ltb-true}
use Rattle.editions.proofs.Terms.{q_beta_is}
use Rattle.editions.proofs.factors.beta_factor.Goals as goal

pub returns-clause-is : goal.returns-clause-is
returns-clause-is c =
    let r = c.args.r.now in
    rw (sym c.if-not-beta_above_six_tenths.ensures)
    (q_beta_is r.diameter r.brace (1000 * r.diameter - 833 * r.brace) (1 * (1000 * r.diameter) - (833 * r.brace) * 1) (omega arith))

pub returns-clause-least : goal.returns-clause-least
returns-clause-least c =
    let r = c.args.r.now in
    let l = r.slim in
    let t = ltb-true (3 * r.diameter) (5 * r.brace) (sym c.if-not-beta_above_six_tenths.ensures) in
    omega (arith, mul-le-mul {n₁ = r.brace} {m₁ = 1000 * r.diameter - 833 * r.brace} {n₂ = r.diameter} {m₂ = 501 * r.diameter} l.1 (omega arith))

pub returns-clause-most : goal.returns-clause-most
returns-clause-most c =
    let r = c.args.r.now in
    let l = r.slim in
    let t = ltb-true (3 * r.diameter) (5 * r.brace) (sym c.if-not-beta_above_six_tenths.ensures) in
    omega (arith, mul-le-mul {n₁ = 3 * r.diameter} {m₁ = 167 * r.diameter} {n₂ = 5 * r.brace} {m₂ = 1000 * r.diameter - 833 * r.brace} (omega arith) (omega arith))
