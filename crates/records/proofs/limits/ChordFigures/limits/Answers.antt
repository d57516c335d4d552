use Rattle.std.proofs.Common.{lit≤, w64, SFits, rules}
use Rattle.std.proofs.lemmas.Int.{to_z-of_z}
use Rattle.records.proofs.Limited.{wide, wide_times}
use Rattle.records.proofs.limits.ChordFigures.limits.Goals as goal

pub returns : goal.returns
returns c =
    let h0 : SFits w64 c.args.self.diameter = search rules in
    let k0 = wide c.args.self.diameter h0 in
    let h1 : SFits w64 c.args.self.wall = search rules in
    let k1 = wide c.args.self.wall h1 in
    let h2 : SFits w64 c.args.self.nominal = search rules in
    let k2 = wide c.args.self.nominal h2 in
    let h3 : SFits w64 c.args.self.fy = search rules in
    let k3 = wide c.args.self.fy h3 in
    let m4 = wide_times 2 (lit≤ tt) c.args.self.wall h1 in
    let m5 = wide_times 10 (lit≤ tt) c.args.self.wall h1 in
    let m6 = wide_times 2 (lit≤ tt) c.args.self.nominal h2 in
    simp to_z-of_z
