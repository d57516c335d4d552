use Rattle.std.proofs.Common.{refl, arith}
use Rattle.powers.proofs.RootLaws.{square_near}
use Rattle.powers.proofs.roots.square_root.Goals as goal

pub returns : goal.returns
returns c = record {
  low = λ _. c.floor_root-low.ensures.at;
  next = λ _. c.floor_root-low.ensures.next;
  high = λ _. refl;
  near = λ q a b s u v t k. square_near c.args.r _ c.floor_root-low.result refl refl c.floor_root-low.ensures.at c.floor_root-low.ensures.next q a b s u v t;
  beyond = λ h. absurd (omega arith);
}
