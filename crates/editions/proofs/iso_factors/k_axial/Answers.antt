use Rattle.powers.proofs.Laws.{weaken}
use Rattle.editions.proofs.iso_factors.k_axial.Goals as goal

pub returns : goal.returns
returns c = weaken (c.mul.ensures.near c.y_compression_value-part.ensures c.gap_factor-q.ensures (tt, tt, tt, tt)) (tt, tt, tt)
