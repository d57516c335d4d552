-- The kinds of strength and their numbers.
--
--     number k    the number of the kind k
--
-- Assumes nothing.
use Rattle.std.specs.Prelude.{ℕ}
use Rattle.records.specs.declared.kind.Kind.{Kind}
use Rattle.records.specs.declared.kind.Kind.TheVariants.{KAxial, YTension, YCompression, XTension, XCompression, InPlane, OutOfPlane}

abbrev pub number : Kind → ℕ
number KAxial = 1
number YTension = 2
number YCompression = 3
number XTension = 4
number XCompression = 5
number InPlane = 6
number OutOfPlane = 7
