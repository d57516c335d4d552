use Rattle.std.proofs.Common.{lit<}
use Rattle.layers.specs.Layers.{can_multiplier}
use Rattle.layers.specs.Layering.{scaled_tells}
use Rattle.layers.proofs.can.CanEdition.tell.Goals as goal

pub returns : goal.returns
returns g c =
    let e = c.args.self.now.below in
    let z = c.multiplier in
    scaled_tells can_multiplier 4 (g.E.Edition.meaning e) (g.met.E.Edition.lawful e) c.args.brace.now c.args.ratios c.args.kind z.result.quotient
    (lit< tt) z.ensures.is z.result.most z.ensures.least c.in_ok-told.told c.of.result c.in_ok-told.ensures c.of.ensures
