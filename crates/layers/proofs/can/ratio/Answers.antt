use Rattle.std.proofs.Common.{◌≡◌, ℕ, ◌-◌, ◌*◌, sym, arith}
use Rattle.layers.proofs.can.ratio.Goals as goal

-- 4 d − 3 D written in two ways
long_is : (D L x y : ℕ) → y ≡ x → ((y * L) * 10) * (3 * (D * D)) ≡ (2 * L * x) * ((((1 * D) * 1) * D) * 15)
long_is D L x y e = rw e (omega arith)

pub returns-then-beta_above_nine_tenths-clause-is : goal.returns-then-beta_above_nine_tenths-clause-is
returns-then-beta_above_nine_tenths-clause-is c =
    let r = c.args.r.now in
    rw (sym c.if-beta_above_nine_tenths.ensures) (long_is r.diameter r.can.length (4 * r.brace - 3 * r.diameter) ((4 * r.brace) * 1 - 3 * (1 * r.diameter)) (omega arith))

pub returns-clause-is : goal.returns-clause-is
returns-clause-is c = rw (sym c.if-beta_above_nine_tenths.ensures) (omega arith)
