use Rattle.editions.specs.Telling.{strength_near, bare_tells, bare_fine}
use Rattle.editions.proofs.code.AnyEdition.tell.Goals as goal

pub returns : goal.returns
returns g c =
    let factors = g.C.Code.factors in
    let chords = g.C.Code.chords in
    let r = c.args.brace.now in
    let q = c.args.ratios in
    let k = c.args.kind in
    let left = c.in_ok-left.ensures in
    let n = strength_near (chords r q k) c.in_ok-left.left c.factor-factor.ensures c.exact.ensures c.mul-strength.ensures left in
    record {
      tells = bare_tells factors chords r q k c.mul-strength.result c.in_ok-left.left left n c.millionths.result c.millionths.ensures;
      fine = bare_fine factors chords r q k c.mul-strength.result c.in_ok-left.left left n c.millionths.result c.millionths.ensures;
    }
