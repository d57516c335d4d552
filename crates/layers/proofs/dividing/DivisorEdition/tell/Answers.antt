use Rattle.std.proofs.Common.{refl, arith, lit<}
use Rattle.layers.specs.Layers.{hundredths}
use Rattle.layers.specs.Layering.{scaled_tells}
use Rattle.layers.proofs.dividing.DivisorEdition.tell.Goals as goal

pub returns : goal.returns
returns g c =
    let d = c.args.self.now in
    let f = d.fair in
    scaled_tells (λ _ _. hundredths d.c d.fair.0) 2 (g.E.Edition.meaning d.below) (g.met.E.Edition.lawful d.below) c.args.brace.now c.args.ratios c.args.kind _
    (lit< tt) refl (omega arith) (omega arith) c.in_ok-told.told c.of.result c.in_ok-told.ensures c.of.ensures
