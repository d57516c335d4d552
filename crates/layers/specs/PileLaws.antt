-- The laws of the editions that a card can name.
-- Here and not in proofs/, since an impl's law has to cite them; a reader of the promises needs none of it. Assumes nothing.
use Rattle.editions.specs.Api.{factor_by_api}
use Rattle.editions.specs.Iso.{factor_by_iso}
use Rattle.editions.specs.Chords.{api_chord_factor, iso_chord_factor}
use Rattle.editions.specs.Meanings.{Lawful}
use Rattle.editions.proofs.Laws.{bare_lawful}
use Rattle.layers.specs.declared.bare.Bare.{Bare}
use Rattle.layers.specs.declared.bare.Bare.TheVariants.{Iso, Api}
use Rattle.layers.specs.declared.pile.Pile.{Pile}
use Rattle.layers.specs.declared.pile.Pile.TheVariants.{Plain, Canned, Divided, CannedDivided}
use Rattle.layers.specs.Layers.{can_multiplier, canned, hundredths}
use Rattle.layers.specs.PileMeanings.{bare_meaning, pile_meaning}
use Rattle.layers.specs.Layering.{scaled_lawful}

pub bare_laws : (b : Bare) → Lawful (bare_meaning b)
bare_laws (Iso e) = bare_lawful factor_by_iso iso_chord_factor
bare_laws (Api e) = bare_lawful factor_by_api api_chord_factor

pub pile_laws : (p : Pile) → Lawful (pile_meaning p)
pile_laws (Plain e) = bare_laws e
pile_laws (Canned e) = scaled_lawful can_multiplier 4 (bare_meaning e.below) (bare_laws e.below)
pile_laws (Divided e) = scaled_lawful (λ _ _. hundredths e.c e.fair.0) 2 (bare_meaning e.below) (bare_laws e.below)
pile_laws (CannedDivided e) =
    scaled_lawful (λ _ _. hundredths e.c e.fair.0) 2 (canned (bare_meaning e.below.below))
    (scaled_lawful can_multiplier 4 (bare_meaning e.below.below) (bare_laws e.below.below))
