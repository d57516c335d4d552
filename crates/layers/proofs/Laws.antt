-- The laws that crates above may use, gathered here.
--
--     pile_usable    every pile is usable
pub use Rattle.layers.proofs.Usables.{pile_usable}
