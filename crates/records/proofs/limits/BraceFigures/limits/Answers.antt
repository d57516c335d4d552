use Rattle.std.proofs.Common.{arith, lit≤, w64, SFits, rules}
use Rattle.std.proofs.lemmas.Int.{to_z-of_z}
use Rattle.records.proofs.Limited.{wide, wide_times, natural_wide, multiples_fit}
use Rattle.records.proofs.limits.BraceFigures.limits.Goals as goal

pub returns : goal.returns
returns c =
    let h0 : SFits w64 c.args.self.brace = search rules in
    let k0 = wide c.args.self.brace h0 in
    let h1 : SFits w64 c.args.self.thickness = search rules in
    let k1 = wide c.args.self.thickness h1 in
    let h2 : SFits w64 c.args.self.fyb = search rules in
    let k2 = wide c.args.self.fyb h2 in
    let h3 : SFits w64 c.args.self.sine = search rules in
    let k3 = wide c.args.self.sine h3 in
    let h4 : SFits w64 c.args.self.gap = search rules in
    let k4 = wide c.args.self.gap h4 in
    let h5 : SFits w64 c.args.self.length = search rules in
    let k5 = wide c.args.self.length h5 in
    let h6 : SFits w64 c.args.self.k = search rules in
    let k6 = wide c.args.self.k h6 in
    let h7 : SFits w64 c.args.self.y = search rules in
    let k7 = wide c.args.self.y h7 in
    let h8 : SFits w64 c.args.self.x = search rules in
    let k8 = wide c.args.self.x h8 in
    let m9 = wide_times 5 (lit≤ tt) c.args.self.brace h0 in
    let m10 = wide_times 4 (lit≤ tt) c.args.self.thickness h1 in
    let m11 = wide_times 5 (lit≤ tt) c.args.self.gap h4 in
    let D = c.args.chord.diameter in
    let T = c.args.chord.wall in
    let eD = natural_wide D (omega arith) in
    let eT = natural_wide T (omega arith) in
    let mD = multiples_fit D (omega arith) in
    let mT = multiples_fit T (omega arith) in
    let d1 = mD.0 in
    let d5 = mD.1 in
    let d3 = mD.3 in
    let t1 = mT.0 in
    let t8 = mT.2 in
    simp (eD, eT, to_z-of_z)
