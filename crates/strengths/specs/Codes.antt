-- What the program tells of a strength.
--
--     pile_by_iso j          the pile of a joint over ISO's edition
--     pile_by_api j          the pile of a joint over API's edition
--     ToldBy pile j k s      s is what that pile of the joint j tells of its brace, its ratios and the kind k: a strength, or none where
--                            the chord is spent
--
-- Assumes nothing.
use Rattle.std.specs.Prelude.{Option}
use Rattle.strengths.specs.declared.line.Joint.{Joint}
use Rattle.records.specs.declared.kind.Kind.{Kind}
use Rattle.editions.specs.declared.strength.Strength.{Strength}
use Rattle.editions.specs.Meanings.{Tells}
use Rattle.layers.specs.declared.pile.Pile.{Pile}
use Rattle.layers.specs.PileMeanings.{pile_meaning}

abbrev pub pile_by_iso : Joint → Pile
pile_by_iso j = j.iso

abbrev pub pile_by_api : Joint → Pile
pile_by_api j = j.api

abbrev pub ToldBy : (Joint → Pile) → Joint → Kind → Option Strength → Type 0
ToldBy pile j k s = Tells (pile_meaning (pile j)) j.brace j.ratios k s
