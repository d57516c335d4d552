-- The text of a number, with and without a sign.
use Rattle.std.proofs.Common.{◌≡◌, ℕ, zero, suc, ◌-◌, ◌<◌, ◌≤◌, List, [], ◌∷◌, length, get_or, take, drop, ℤ, pos, negsuc, neg_ℤ, Some, None, decimal, Option, sym, ap, ◌∙◌, subst, arith, length-take, MatchOption}
use lib.Signed.{mag}
use Rattle.std.specs.Str.Parse.{digits_value, AllDigits}
use Rattle.std.specs.Char.{digit_value as digitValue}
use Rattle.std.specs.Int.{IsInRange}
use Rattle.std.proofs.lemmas.Str.Parse.{IsNumeralModel, numerals_by_value, tells_digits, digits_value_short, digit_at}
use Rattle.std.proofs.lemmas.Fmt.{decimal-digits_value, digits_decimal, first_decimal, decimal_nonempty, length-decimal-le, decimal_digit, signed_decimal_injective}
use Rattle.std.proofs.lemmas.List.{take_rest, drop_more}
use Rattle.std.proofs.lemmas.Bool.Decides.{nat_tests}
use Rattle.std.proofs.lemmas.Slice.Eq.{text_from_reads}
use Rattle.cards.specs.Numbers.{IsText, Short}
use Rattle.cards.specs.Texts.{IsPlain, ReadsPlain, ReadsSigned}

-- the words of `parse` are our own
pub own : IsNumeralModel (AllDigits 10) (digits_value 10)
own = numerals_by_value (AllDigits 10) tells_digits

pub front_small : (bs : List ℕ) (i : ℕ) → i < length bs → length bs ≤ 10 → AllDigits 10 (take i bs) → digits_value 10 (take i bs) < 1000000000
front_small bs i l m d = digits_value_short own (take i bs) 9 d (simp length-take (omega arith))

-- a byte that is no digit
pub digit_value : (c : ℕ) → 48 ≤ c → c < 58 → digitValue c ≡ c - 48
digit_value c l h = grind (arith, nat_tests)

pub no_digit : (bs : List ℕ) (i : ℕ) → i < length bs → (IsInRange 48 57 (get_or bs i 0) → ⊥) → AllDigits 10 bs → ⊥
no_digit bs i l n d = n (digit_at bs i d l)

-- the answer of `digits` is the answer of `whole`, where the text does not begin with 0
pub reads : (bs : List ℕ) (r : Option ℕ) → 0 < length bs → (get_or bs 0 0 ≡ 48 → ⊥) → MatchOption r (AllDigits 10 bs → length bs ≤ 10 → ⊥) (λ v. (length bs ≤ 10) × AllDigits 10 bs × (v ≡ digits_value 10 bs)) → ReadsPlain bs r
reads bs None some first h = λ n t. h (subst (AllDigits 10) (sym t.1) (digits_decimal own n (omega arith))) (rw t.1 (length-decimal-le 10 n (omega arith) (omega arith) (omega arith)))
reads bs (Some v) some first h =
    let small : digits_value 10 bs < 10000000000 = digits_value_short own bs 10 h.1 h.0 in
    (omega (arith, h.2), sym (ap decimal h.2 ∙ decimal-digits_value own bs h.1 some (λ z. absurd (first z)) (omega arith)))

pub none_empty : (bs : List ℕ) → length bs ≡ 0 → (n : ℕ) → IsPlain n bs → ⊥
none_empty bs e n t = omega (arith, decimal_nonempty n (omega arith), ap length t.1)

pub none_zero : (bs : List ℕ) → 1 < length bs → get_or bs 0 0 ≡ 48 → (n : ℕ) → IsPlain n bs → ⊥
none_zero bs l e zero t = omega (arith, ap length (t.1 ∙ decimal_digit 0 (omega arith)))
none_zero bs l e (suc n) t = omega (arith, first_decimal (suc n) (omega arith) (omega arith), ap (λ (x : List ℕ). get_or x 0 0) t.1)

pub zero_text : (bs : List ℕ) → length bs ≡ 1 → get_or bs 0 0 ≡ 48 → IsPlain 0 bs
zero_text bs l e = (omega arith, text_from_reads bs (48 ∷ []) l (e, tt) ∙ sym (decimal_digit 0 (omega arith)))

-- ---- with a sign
pub first_digit : (n : ℕ) → n < 10000000000 → (48 ≤ get_or (decimal n) 0 0) × (get_or (decimal n) 0 0 ≤ 57)
first_digit n h =
    let i = digit_at (decimal n) 0 (digits_decimal own n (omega arith)) (decimal_nonempty n (omega arith)) in (i.0, i.1)

-- a text that begins with a minus is that of no number that has none
pub no_plain : (bs : List ℕ) (n : ℕ) → get_or bs 0 0 ≡ 45 → IsPlain n bs → ⊥
no_plain bs n e t = omega (arith, (first_digit n t.0).0, ap (λ (x : List ℕ). get_or x 0 0) t.1)

pub neg_zero : (bs : List ℕ) → get_or bs 0 0 ≡ 45 → get_or bs 1 0 ≡ 48 → (z : ℤ) → IsText z bs → ⊥
neg_zero bs e o (pos n) t = no_plain bs n e t
neg_zero bs e o (negsuc n) t = omega (arith, first_decimal (suc n) (omega arith) (omega arith), ap (λ (x : List ℕ). get_or x 1 0) t.1)

rest_of : (bs ds : List ℕ) (c : ℕ) → bs ≡ c ∷ ds → take (length bs - 1) (drop 1 bs) ≡ ds
rest_of bs ds c e = take_rest bs 1 ∙ ap (λ (x : List ℕ). drop 1 x) e

pub neg_none : (bs : List ℕ) → get_or bs 0 0 ≡ 45 → ((n : ℕ) → IsPlain n (take (length bs - 1) (drop 1 bs)) → ⊥) → (z : ℤ) → IsText z bs → ⊥
neg_none bs e f (pos n) t = no_plain bs n e t
neg_none bs e f (negsuc n) t = f (suc n) (omega arith, rest_of bs (decimal (suc n)) 45 t.1)

pub neg_some : (bs : List ℕ) (n : ℕ) (z : ℤ) → 0 < length bs → get_or bs 0 0 ≡ 45 → (1 < length bs → get_or bs 1 0 ≡ 48 → ⊥) → IsPlain n (take (length bs - 1) (drop 1 bs)) → z ≡ neg_ℤ (pos n) → IsText z bs
neg_some bs zero z some e two t is =
    let whole : bs ≡ 45 ∷ 48 ∷ [] = drop_more bs 0 0 some ∙ (λ i. e i ∷ (sym (take_rest bs 1) ∙ t.1 ∙ decimal_digit 0 (omega arith)) i) in
    absurd (two (omega (arith, ap length whole)) (ap (λ (x : List ℕ). get_or x 1 0) whole))
neg_some bs (suc n) z some e two t is =
    subst (λ (x : ℤ). IsText x bs) (sym is) (omega (arith, t.0), drop_more bs 0 0 some ∙ (λ i. e i ∷ (sym (take_rest bs 1) ∙ t.1) i))

-- ---- one number to a text
small_mag : (z : ℤ) → Short z → mag z < 9223372036854775808
small_mag (pos n) h = omega arith
small_mag (negsuc n) h = omega arith

pub exact : (bs : List ℕ) (r : Option ℤ) (z : ℤ) → ReadsSigned bs r → IsText z bs → r ≡ Some z
exact bs None z h t = absurd (h z t)
exact bs (Some y) z h t = ap Some (signed_decimal_injective y z (small_mag y h.0) (small_mag z t.0) (sym h.1 ∙ t.1))

pub plain : (bs : List ℕ) → (get_or bs 0 0 ≡ 45 → ⊥) → ((n : ℕ) → IsPlain n bs → ⊥) → (z : ℤ) → IsText z bs → ⊥
plain bs no_minus f (pos n) t = f n t
plain bs no_minus f (negsuc n) t = no_minus (ap (λ (x : List ℕ). get_or x 0 0) t.1)
