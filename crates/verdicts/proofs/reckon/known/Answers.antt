use Rattle.verdicts.proofs.Bounds.{told_of, known_of}
use Rattle.verdicts.proofs.reckon.known.Goals as goal

pub returns : goal.returns
returns g c _ =
    let m = g.E.Edition.meaning c.args.edition.now in
    let told = told_of m c.args.brace.now c.args.force.now.ratios c.args.kind _ c.in_ok-told.told _ c.tell.ensures c.in_ok-told.ensures.value in
    known_of m c.args.brace.now c.args.force.now c.args.kind c.in_ok-told.told _ _ _ told c.trusted.ensures c.unwrap_or.ensures
