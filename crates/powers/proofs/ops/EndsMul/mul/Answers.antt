use Rattle.std.proofs.Common.{◌^◌, lit<}
use Rattle.powers.proofs.Nears.{rounded_up, product_near}
use Rattle.powers.proofs.ops.EndsMul.mul.Goals as goal

pub returns : goal.returns
returns c =
    let l = c.fitted-low.ensures in
    let h = rw (c.div_ceil.ensures, rounded_up _ (2 ^ 40) (lit< tt)) at c.fitted-high.ensures in
    record { low = l; high = h; near = product_near c.args.self c.args.other _ l h }
