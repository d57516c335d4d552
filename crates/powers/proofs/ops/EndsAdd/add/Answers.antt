use Rattle.powers.proofs.Nears.{sum_near}
use Rattle.powers.proofs.ops.EndsAdd.add.Goals as goal

pub returns : goal.returns
returns c =
    let l = c.fitted-low.ensures in
    let h = c.fitted-high.ensures in
    record { low = l; high = h; near = sum_near c.args.self c.args.other _ l h }
