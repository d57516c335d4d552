use Rattle.std.proofs.Common.{refl}
use Rattle.powers.specs.Fractions.{number}
use Rattle.powers.proofs.Nears.{weaken}
use Rattle.powers.proofs.RootLaws.{in_range, first_power, join}
use Rattle.powers.proofs.roots.thirteen_fifths.Goals as goal

pub returns : goal.returns
returns c =
    let is = c.in-Some.ensures in
    let up = rw is at (in_range c.in-Some.base) in
    record {
      near = λ q s _.
          let r = c.fifth_root-x.ensures q (rw is s) in
          let b = first_power c.args.r c.exact-b.result q c.exact-b.ensures s up in
          let square = join (number 2 1) refl (c.mul.ensures.near b b (tt, tt, tt, tt)) in
          let two = join (number 2 5) refl (c.mul-2.ensures.near r r (tt, tt, tt, tt)) in
          let three = join (number 3 5) refl (c.mul-3.ensures.near two r (tt, tt, tt, tt)) in
          weaken (join (number 13 5) refl (c.mul-4.ensures.near square three (tt, tt, tt, tt))) (tt, tt, tt);
      beyond = λ h. absurd (h up);
    }
