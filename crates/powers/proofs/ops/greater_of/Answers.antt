use Rattle.powers.proofs.Nears.{greater_near}
use Rattle.powers.proofs.ops.greater_of.Goals as goal

pub returns : goal.returns
returns c =
    let l = c.max.ensures in
    let h = c.max-2.ensures in
    record { low = l; high = h; near = greater_near c.args.x c.args.y _ l h }
