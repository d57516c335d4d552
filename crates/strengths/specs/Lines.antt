-- What a line of input says.
--
--     Described j    the piles of the joint j are those that its divisor and its can name over edition 1, ISO's, and edition 2, API's
--
-- Assumes nothing.
use Rattle.std.specs.Prelude.{pos}
use Rattle.strengths.specs.declared.line.Joint.{Joint}
use Rattle.layers.specs.Piles.{PileNamed}

pub record Described (j : Joint) : Type 0 where
  pub iso : PileNamed j.iso (pos 1) j.c j.can
  pub api : PileNamed j.api (pos 2) j.c j.can
