use Rattle.std.proofs.Common.{w64, SFits, rules}
use Rattle.std.proofs.lemmas.Int.{to_z-of_z}
use Rattle.decks.proofs.Turning.{add_refused, loaded}
use Rattle.decks.proofs.performing.turn.Goals as goal

pub returns-in_err-add-in-Brace : goal.returns-in_err-add-in-Brace
returns-in_err-add-in-Brace c =
    let j : SFits w64 c.in-Brace.joint = search rules in
    let b : SFits w64 c.in-Brace.brace = search rules in
    add_refused c.args.book.now c.add.new.self c.args.card c.in-Brace.joint c.in-Brace.brace c.add.result c.add.ensures.edition c.in-Brace.figures c.in_err-add-in-Brace.field-0.0
    c.from_residual-in_err-add-in-Brace.result c.in-Brace.is (simp to_z-of_z at c.add.ensures.step) c.in_err-add-in-Brace.was c.from_residual-in_err-add-in-Brace.ensures.1

pub returns-in_ok-load-in-Force : goal.returns-in_ok-load-in-Force
returns-in_ok-load-in-Force c =
    let j : SFits w64 c.in-Force.joint = search rules in
    let b : SFits w64 c.in-Force.brace = search rules in
    loaded c.args.book.now c.load.new.self c.args.card c.in-Force.joint c.in-Force.brace c.load.result c.load.ensures.edition c.in-Force.figures c.in_ok-load-in-Force.field-0
    c.in-Force.is (simp to_z-of_z at c.load.ensures.step) c.in_ok-load-in-Force.was
