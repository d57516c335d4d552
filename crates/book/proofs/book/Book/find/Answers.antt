use Rattle.std.proofs.Common.{w64, SFits, rules}
use Rattle.std.proofs.lemmas.Int.{to_z-of_z}
use Rattle.book.proofs.Making.{check_found, check_refused}
use Rattle.book.proofs.book.Book.find.Goals as goal

pub returns : goal.returns
returns g c =
    let j : SFits w64 c.args.joint = search rules in
    let b : SFits w64 c.args.brace = search rules in
    check_found (simp to_z-of_z at c.in_ok-figures.ensures) c.in_ok-verdict.ensures

pub returns-in_err-verdict : goal.returns-in_err-verdict
returns-in_err-verdict g c =
    let j : SFits w64 c.args.joint = search rules in
    let b : SFits w64 c.args.brace = search rules in
    check_refused c.args.joint c.args.brace _ c.from_residual-in_err-verdict.result c.from_residual-in_err-verdict.ensures.1 (simp to_z-of_z at c.in_ok-figures.ensures) c.in_err-verdict.ensures
