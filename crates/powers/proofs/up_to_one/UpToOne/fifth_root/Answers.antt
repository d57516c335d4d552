use Rattle.std.proofs.Common.{refl}
use Rattle.powers.proofs.RootLaws.{in_range, fifth_near}
use Rattle.powers.proofs.up_to_one.UpToOne.fifth_root.Goals as goal

pub returns : goal.returns
returns c = λ q s. fifth_near c.args.self.quotient _ c.floor_nth_root-x.result refl refl c.floor_nth_root-x.ensures.at c.floor_nth_root-x.ensures.next q s (in_range c.args.self)
