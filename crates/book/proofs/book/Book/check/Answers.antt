use Rattle.std.proofs.Common.{refl, w64, SFits, rules}
use Rattle.std.proofs.lemmas.Int.{to_z-of_z}
use Rattle.book.proofs.Making.{check_made}
use Rattle.book.proofs.book.Book.check.Goals as goal

pub returns : goal.returns
returns g c =
    let j : SFits w64 c.args.joint = search rules in
    let b : SFits w64 c.args.brace = search rules in
    record { edition = refl; step = check_made (simp to_z-of_z at c.in_ok-found.ensures) (simp to_z-of_z at c.in_ok-note.ensures) }
