-- Every pile is usable.
use Rattle.std.proofs.Common.{ℕ, ◌≤◌, lit≤}
use Rattle.editions.specs.Meanings.{Usable}
use Rattle.layers.specs.declared.bare.Bare.{Bare}
use Rattle.layers.specs.declared.bare.Bare.TheVariants.{Iso, Api}
use Rattle.layers.specs.declared.pile.Pile.{Pile}
use Rattle.layers.specs.declared.pile.Pile.TheVariants.{Plain, Canned, Divided, CannedDivided}
use Rattle.layers.specs.Layers.{canned, divided}
use Rattle.layers.specs.PileMeanings.{bare_meaning, pile_meaning}

bare_usable : (b : Bare) → Usable (bare_meaning b)
bare_usable (Iso e) = record { narrow = lit≤ tt; firm = lit≤ tt }
bare_usable (Api e) = record { narrow = lit≤ tt; firm = lit≤ tt }

canned_usable : (b : Bare) → Usable (canned (bare_meaning b))
canned_usable (Iso e) = record { narrow = lit≤ tt; firm = lit≤ tt }
canned_usable (Api e) = record { narrow = lit≤ tt; firm = lit≤ tt }

module _ (c : ℕ) (h : 100 ≤ c) where
  divided_usable : (b : Bare) → Usable (divided c h (bare_meaning b))
  divided_usable (Iso e) = record { narrow = lit≤ tt; firm = lit≤ tt }
  divided_usable (Api e) = record { narrow = lit≤ tt; firm = lit≤ tt }

  both_usable : (b : Bare) → Usable (divided c h (canned (bare_meaning b)))
  both_usable (Iso e) = record { narrow = lit≤ tt; firm = lit≤ tt }
  both_usable (Api e) = record { narrow = lit≤ tt; firm = lit≤ tt }

pub pile_usable : (p : Pile) → Usable (pile_meaning p)
pile_usable (Plain e) = bare_usable e
pile_usable (Canned e) = canned_usable e.below
pile_usable (Divided e) = divided_usable e.c e.fair.0 e.below
pile_usable (CannedDivided e) = both_usable e.c e.fair.0 e.below.below
