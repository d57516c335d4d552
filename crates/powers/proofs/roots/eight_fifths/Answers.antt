use Rattle.std.proofs.Common.{refl}
use Rattle.powers.specs.Fractions.{number}
use Rattle.powers.proofs.Nears.{weaken}
use Rattle.powers.proofs.RootLaws.{in_range, first_power, join}
use Rattle.powers.proofs.roots.eight_fifths.Goals as goal

pub returns : goal.returns
returns c =
    let is = c.in-Some.ensures in
    let up = rw is at (in_range c.in-Some.base) in
    record {
      near = λ q s _.
          let r = c.fifth_root-x.ensures q (rw is s) in
          let two = join (number 2 5) refl (c.mul.ensures.near r r (tt, tt, tt, tt)) in
          let three = join (number 3 5) refl (c.mul-2.ensures.near two r (tt, tt, tt, tt)) in
          weaken (join (number 8 5) refl (c.mul-3.ensures.near (first_power c.args.r c.exact.result q c.exact.ensures s up) three (tt, tt, tt, tt))) (tt, tt, tt);
      beyond = λ h. absurd (h up);
    }
