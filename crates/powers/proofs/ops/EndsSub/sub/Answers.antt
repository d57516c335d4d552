use Rattle.powers.proofs.Nears.{difference_near}
use Rattle.powers.proofs.ops.EndsSub.sub.Goals as goal

pub returns : goal.returns
returns c =
    let l = c.saturating_sub.ensures in
    let h = c.saturating_sub-2.ensures in
    record { low = l; high = h; near = difference_near c.args.self c.args.other _ l h }
