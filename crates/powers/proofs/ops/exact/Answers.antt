use Rattle.powers.proofs.Nears.{rounded_up, exact_near}
use Rattle.powers.proofs.ops.exact.Goals as goal

pub returns : goal.returns
returns c =
    let l = c.fitted-low.ensures in
    let h = rw (c.div_ceil.ensures, rounded_up _ c.args.r.den c.args.r.whole) at c.fitted-high.ensures in
    record { low = l; high = h; near = exact_near c.args.r _ l h }
