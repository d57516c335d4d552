-- The two parts of a signed figure.
--
--     apart z    how far apart two braces are at the gap z: 0 where they overlap
--     lap z      how far they overlap: 0 where they are apart
--     size z     the size of z, without its sign
--
-- Assumes nothing.
use Rattle.std.specs.Prelude.{ℕ, ◌+◌, ℤ}
use borrow.Author.Differences.{up, down}

abbrev pub apart : ℤ → ℕ
apart z = up z

abbrev pub lap : ℤ → ℕ
lap z = down z

abbrev pub size : ℤ → ℕ
size z = up z + down z
