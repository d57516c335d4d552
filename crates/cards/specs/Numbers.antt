-- The numbers of fields.
--
--     Short z         z has at most ten digits
--     IsText z bs     the bytes bs are the decimal text of z, which is short: a minus sign if it is below 0, and no zero in front
--     is_plain bs     one to ten digits, the first of them 0 only if it is alone
--     number_in bs    the number that bs writes, if it writes one: a minus sign, if there is one, and then such digits; not -0
--
-- Assumes nothing.
use Rattle.std.specs.Prelude.{◌≡◌, ℕ, zero, suc, ◌<◌, Bool, cond, not, ◌&&◌, ◌||◌, List, [], ◌∷◌, length, ℤ, pos, negsuc, Some, None, Option, ◌==◌, nat_le, nat_lt, slice_index}
use Rattle.std.specs.Str.Parse.{digits_value}
use Rattle.std.specs.Fmt.{signed_decimal}
use Rattle.std.specs.Str.{all_ascii_digits}

abbrev pub Short : ℤ → Type 0
Short (pos n) = n < 10000000000
Short (negsuc n) = n < 9999999999

abbrev pub IsText : ℤ → List ℕ → Type 0
IsText z bs = Short z × (bs ≡ signed_decimal z)

abbrev pub is_plain : List ℕ → Bool
is_plain bs = (all_ascii_digits bs && (nat_lt 0 (length bs) && nat_le (length bs) 10)) && (length bs == 1 || not (slice_index bs 0 == 48))

unfoldable pub plain_in : List ℕ → Option ℕ
plain_in bs = cond (is_plain bs) (Some (digits_value 10 bs)) None

abbrev pub as_positive : Option ℕ → Option ℤ
as_positive None = None
as_positive (Some n) = Some (pos n)

abbrev pub as_negative : Option ℕ → Option ℤ
as_negative None = None
as_negative (Some zero) = None
as_negative (Some (suc n)) = Some (negsuc n)

unfoldable pub number_in : List ℕ → Option ℤ
number_in [] = None
number_in (b ∷ bs) = cond (b == 45) (as_negative (plain_in bs)) (as_positive (plain_in (b ∷ bs)))
