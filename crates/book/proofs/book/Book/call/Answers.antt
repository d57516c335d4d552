use Rattle.std.proofs.Common.{rules}
use Rattle.book.proofs.book.Book.call.Goals as goal

pub returns-in-Add : goal.returns-in-Add
returns-in-Add g c = search rules

pub returns-in-Load : goal.returns-in-Load
returns-in-Load g c = search rules
