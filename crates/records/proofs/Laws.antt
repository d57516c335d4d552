-- The laws that crates above may use, gathered here: what follows where no figure is outside its limits.
--
--     Holding, held    where no row names a figure, each value is from its low to its high
--     first_of_both    the first figure outside of rows and then others is theirs, and where they name none, that of the others
pub use Rattle.records.proofs.Limited.{Holding, held, wide, sized, first_of_both}
