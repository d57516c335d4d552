use Rattle.std.proofs.Common.{arith}
use Rattle.powers.specs.Fractions.{number, ◌*ᶠ◌}
use Rattle.powers.specs.Enclosures.{milli}
use Rattle.powers.proofs.Laws.{weaken}
use Rattle.editions.specs.Figures.{beta}
use Rattle.editions.proofs.factors.y_tension_factor.Goals as goal

pub returns : goal.returns
returns c =
    let r = c.args.r.now in
    weaken (c.exact.ensures.near (number 30 1 *ᶠ beta r) (milli 6000) (milli 30000) (omega arith) (omega arith) (omega arith) tt tt) (tt, tt, tt)
