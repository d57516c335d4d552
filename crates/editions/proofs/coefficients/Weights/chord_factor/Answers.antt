use Rattle.std.proofs.Common.{◌≡◌, ◌+◌, ◌*◌, refl, arith}
use Rattle.editions.specs.Chords.{iso_q_f}
use Rattle.editions.proofs.ChordLaws.{iso_loss, iso_reads, is_spent, is_left}
use Rattle.editions.proofs.coefficients.Weights.chord_factor.Goals as goal

pub returns-then-loss-gt90000000000 : goal.returns-then-loss-gt90000000000
returns-then-loss-gt90000000000 c =
    let k = c.args.self in
    let s = c.from-s.result in
    let e : k.w * (k.axial * c.axial_square.result + k.bending * c.bending_square.result) ≡ iso_loss k s = rw (c.axial_square.ensures.is, c.bending_square.ensures.is) refl in
    is_spent (iso_q_f k c.args.q) 100000000000 (iso_loss k s) (iso_reads k c.args.q s c.from-s.ensures) (omega arith)

pub returns : goal.returns
returns c =
    let k = c.args.self in
    let s = c.from-s.result in
    let e : k.w * (k.axial * c.axial_square.result + k.bending * c.bending_square.result) ≡ iso_loss k s = rw (c.axial_square.ensures.is, c.bending_square.ensures.is) refl in
    is_left (iso_q_f k c.args.q) 100000000000 (iso_loss k s) (iso_reads k c.args.q s c.from-s.ensures) _ (omega arith) refl (omega arith) (omega arith)
