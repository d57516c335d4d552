-- What an input and a line are cut into.
--
--     pieces mark last bs    the pieces of bs that the mark parts; what the end gives is last
--     ending e               what the end gives: one more piece, which is empty, where e is true, and else none
--     pieces_from m e bs n   the pieces of bs from its place n on, where the end gives ending e; past the end there is none
--     lines_of bs            the lines of an input: each ends at a byte 10, and the last may lack it unless it is empty
--     fields_of bs           the fields of a line, parted by commas: one more than there are commas
--
-- Assumes nothing.
use Rattle.std.specs.Prelude.{ℕ, Bool, true, false, cond, List, [], ◌∷◌, length, drop, ◌==◌, nat_le}

-- b goes in front of the first piece
abbrev pub onto : ℕ → List (List ℕ) → List (List ℕ)
onto b [] = (b ∷ []) ∷ []
onto b (l ∷ ls) = (b ∷ l) ∷ ls

abbrev pub pieces : ℕ → List (List ℕ) → List ℕ → List (List ℕ)
pieces mark last [] = last
pieces mark last (b ∷ bs) = cond (b == mark) ([] ∷ pieces mark last bs) (onto b (pieces mark last bs))

abbrev pub ending : Bool → List (List ℕ)
ending true = [] ∷ []
ending false = []

abbrev pub pieces_from : ℕ → Bool → List ℕ → ℕ → List (List ℕ)
pieces_from m e bs n = cond (nat_le n (length bs)) (pieces m (ending e) (drop n bs)) []

abbrev pub lines_of : List ℕ → List (List ℕ)
lines_of bs = pieces 10 [] bs

abbrev pub fields_of : List ℕ → List (List ℕ)
fields_of bs = pieces 44 ([] ∷ []) bs
