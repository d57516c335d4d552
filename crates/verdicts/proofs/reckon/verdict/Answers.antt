use Rattle.std.proofs.Common.{◌≡◌, nat_abs, w64, SFits, rules}
use Rattle.std.proofs.lemmas.Int.{to_z-of_z}
use Rattle.editions.specs.Meanings.{Usable}
use Rattle.verdicts.proofs.Bounds.{axial_between, inner_between, outer_between, none_spent, reckoners, worked, binds}
use Rattle.verdicts.proofs.reckon.verdict.Goals as goal

pub returns : goal.returns
returns g c =
    let m = g.E.Edition.meaning c.args.edition.now in
    let w = g.met.E.Edition.lawful c.args.edition.now in
    let b = c.args.brace.now in
    let n = c.args.force.now in
    let s = c.in_ok-c.c in
    let t = c.in_ok-c.ensures in
    let fa : SFits w64 n.n = search rules in
    let fi : SFits w64 n.my = search rules in
    let fo : SFits w64 n.mz = search rules in
    let la : c.unsigned_abs.result ≡ nat_abs n.n = simp to_z-of_z at c.unsigned_abs.ensures.value in
    let li : c.unsigned_abs-2.result ≡ nat_abs n.my = simp to_z-of_z at c.unsigned_abs-2.ensures.value in
    let lo : c.unsigned_abs-3.result ≡ nat_abs n.mz = simp to_z-of_z at c.unsigned_abs-3.ensures.value in
    let pa = λ (u : Usable m). axial_between m w u b n s t c.axial_resistance.result c.ratio-axial.result _ la c.axial_resistance.ensures.low c.axial_resistance.ensures.high c.ratio-axial.ensures in
    let pi = λ (u : Usable m). inner_between m w u b n s.inner c.moment_resistance.result c.ratio-inner.result _ li t.inner c.moment_resistance.ensures.low c.moment_resistance.ensures.high c.ratio-inner.ensures in
    let po = λ (u : Usable m). outer_between m w u b n s.outer c.moment_resistance-2.result c.ratio-outer.result _ lo t.outer c.moment_resistance-2.ensures.low c.moment_resistance-2.ensures.high c.ratio-outer.ensures in
    record {
      unspent = none_spent m b n s t;
      reckoners = λ u. reckoners m w u b n s t;
      worked = λ u. worked m b n _ _ _ (pa u) (pi u) (po u) c.verdict_of.result c.verdict_of.ensures;
      binds = λ u. binds m b n _ _ _ (pa u) (pi u) (po u) c.verdict_of.result c.verdict_of.ensures;
    }
