-- The meanings of the editions that a card can name.
--
--     bare_meaning e    the meaning of a bare edition
--     pile_meaning p    the meaning of a pile: the divisor stands on the can, and the can on the edition
--
-- Assumes nothing.
use Rattle.editions.specs.Meanings.{Meaning, api_meaning, iso_meaning}
use Rattle.layers.specs.declared.bare.Bare.{Bare}
use Rattle.layers.specs.declared.bare.Bare.TheVariants.{Iso, Api}
use Rattle.layers.specs.declared.pile.Pile.{Pile}
use Rattle.layers.specs.declared.pile.Pile.TheVariants.{Plain, Canned, Divided, CannedDivided}
use Rattle.layers.specs.Layers.{canned, divided}

abbrev pub bare_meaning : Bare → Meaning
bare_meaning (Iso e) = iso_meaning
bare_meaning (Api e) = api_meaning

abbrev pub pile_meaning : Pile → Meaning
pile_meaning (Plain e) = bare_meaning e
pile_meaning (Canned e) = canned (bare_meaning e.below)
pile_meaning (Divided e) = divided e.c e.fair.0 (bare_meaning e.below)
pile_meaning (CannedDivided e) = divided e.c e.fair.0 (canned (bare_meaning e.below.below))
