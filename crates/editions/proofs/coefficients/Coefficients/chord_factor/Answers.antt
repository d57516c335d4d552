use Rattle.std.proofs.Common.{◌≡◌, ◌+◌, ◌*◌, ◌≤◌, refl, mul-le-mul, arith}
use Rattle.editions.specs.Chords.{axial_square, bending_square, written, api_q_f}
use Rattle.editions.proofs.ChordLaws.{gain, loss, api_reads, is_spent, is_left}
use Rattle.editions.proofs.coefficients.Coefficients.chord_factor.Goals as goal

pub returns-then-gain-whole : goal.returns-then-gain-whole
returns-then-gain-whole c =
    let k = written c.args.self in
    let s = c.from-s.result in
    let e : c.args.self.square * (c.axial_square.result + c.bending_square.result) ≡ c.args.self.square * (axial_square s + bending_square s) = rw (c.axial_square.ensures.is, c.bending_square.ensures.is) refl in
    is_spent (api_q_f k c.args.q) (gain k s) (loss k s) (api_reads k c.args.q s c.from-s.ensures) (omega arith)

pub returns : goal.returns
returns c =
    let k = written c.args.self in
    let s = c.from-s.result in
    let m = c.args.self.moderate in
    let w = s.within in
    let e : c.args.self.square * (c.axial_square.result + c.bending_square.result) ≡ c.args.self.square * (axial_square s + bending_square s) = rw (c.axial_square.ensures.is, c.bending_square.ensures.is) refl in
    let rise : c.args.self.rise * s.tension ≤ (3 * c.args.self.over) * 10000 = mul-le-mul m.0 (omega arith) in
    let fall : c.args.self.fall * s.compression ≤ (2 * c.args.self.over) * 10000 = mul-le-mul m.1 (omega arith) in
    let close : c.args.self.close * s.opening ≤ (2 * c.args.self.over) * 10000 = mul-le-mul m.2 (omega arith) in
    is_left (api_q_f k c.args.q) (gain k s) (loss k s) (api_reads k c.args.q s c.from-s.ensures) _ (omega arith) refl (omega arith) (omega arith)
