use Rattle.std.proofs.Common.{w64, SFits, rules}
use Rattle.std.proofs.lemmas.Int.{to_z-of_z}
use Rattle.records.specs.Limits.{ratio_limits}
use Rattle.records.proofs.Limited.{held, sized}
use Rattle.records.proofs.ratios.Ratios.new.Goals as goal

pub invariant_of-result : goal.invariant_of-result
invariant_of-result c =
    let h = held (ratio_limits c.args.f) (rw c.limits.ensures at c.in_ok-within.ensures) in
    let p : SFits w64 c.args.f.p = search rules in
    let i : SFits w64 c.args.f.mi = search rules in
    let o : SFits w64 c.args.f.mo = search rules in
    record { within = simp to_z-of_z (sized c.args.f.p h.0 h.1, sized c.args.f.mi h.2.0 h.2.1, sized c.args.f.mo h.2.2.0 h.2.2.1) }
