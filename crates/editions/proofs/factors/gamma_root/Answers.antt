use Rattle.std.proofs.Common.{arith}
use Rattle.powers.specs.Enclosures.{milli}
use Rattle.powers.proofs.Laws.{weaken}
use Rattle.editions.specs.Figures.{gamma}
use Rattle.editions.proofs.factors.gamma_root.Goals as goal

pub returns : goal.returns
returns c =
    let r = c.args.r.now in
    let s = c.gamma.ensures in
    weaken (c.square_root.ensures.near (gamma r) (milli 3160) (milli 7072) s.is (omega arith) (omega arith) tt (omega (arith, s.small))) (tt, tt, tt)
