-- The laws that crates above may use, gathered here: what follows for every table of factors and of chord factors.
--
--     bare_lawful    the meaning of an edition that is two such tables keeps the laws
pub use Rattle.editions.specs.Telling.{bare_lawful}
