-- The laws that crates above may use, gathered here.
--
--     stays                      a step of a call leaves every standing check binding
--     none_found, first_found    the search of the kinds in use finds no spent chord, or the first, just where a check tells so
pub use Rattle.book.proofs.Stays.{stays}
pub use Rattle.book.proofs.Uses.{none_found, first_found}
