use Rattle.std.proofs.Common.{refl}
use Rattle.powers.specs.Fractions.{number}
use Rattle.powers.proofs.Nears.{weaken}
use Rattle.powers.proofs.RootLaws.{in_range, first_power, join}
use Rattle.powers.proofs.roots.six_fifths.Goals as goal

pub returns : goal.returns
returns c =
    let is = c.in-Some.ensures in
    let up = rw is at (in_range c.in-Some.base) in
    record {
      near = λ q s _.
          weaken (join (number 6 5) refl (c.mul.ensures.near (first_power c.args.r c.exact.result q c.exact.ensures s up) (c.fifth_root.ensures q (rw is s)) (tt, tt, tt, tt))) (tt, tt, tt);
      beyond = λ h. absurd (h up);
    }
