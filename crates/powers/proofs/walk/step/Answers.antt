use Rattle.std.proofs.Common.{arith, le→leb}
use Rattle.powers.proofs.Walks.{next_nearer, next_root, next_zero, next_one}
use Rattle.powers.proofs.walk.step.Goals as goal

pub returns-then-digit : goal.returns-then-digit
returns-then-digit c = record {
  reached = λ q k j from to few small h.
      let x = c.args.s.root in
      let z = c.halve-root.result in
      let d = c.halve-root.ensures in
      let r = next_root x z q j h.root h.close d h.nearer in
      simp c.if-digit.true (record {
        root = r;
        close = omega (arith, d.high);
        nearer = next_nearer x z q j h.root h.close d h.nearer;
        product = next_one c.mul-product.result q k j few from to small _ (c.mul-product.ensures.near h.product r (tt, le→leb _ _ (omega arith), tt, tt));
      });
}

pub returns : goal.returns
returns c = record {
  reached = λ q k j from to few small h.
      let x = c.args.s.root in
      let z = c.halve-root.result in
      let d = c.halve-root.ensures in
      simp c.if-digit.false (record {
        root = next_root x z q j h.root h.close d h.nearer;
        close = omega (arith, d.high);
        nearer = next_nearer x z q j h.root h.close d h.nearer;
        product = next_zero c.args.s.product q k j few h.product;
      });
}
