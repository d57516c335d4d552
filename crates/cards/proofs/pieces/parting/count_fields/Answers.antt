use Rattle.std.proofs.Common.{length, ap, ◌∙◌}
use Rattle.cards.proofs.Counting.{pieces_count}
use Rattle.cards.proofs.pieces.parting.count_fields.Goals as goal

pub returns : goal.returns
returns c =
    let ran = c.count.ensures.ran in
    pieces_count c.fields.result c.count.result ran.0 ran.1 ran.2 ∙ ap length c.fields.ensures.1
