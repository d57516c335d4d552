-- The definitions of Numbers read a field as its decimal text.
use Rattle.std.proofs.Common.{◌≡◌, ℕ, zero, suc, ◌<◌, ◌≤◌, Bool, true, false, cond, eqb, List, [], ◌∷◌, length, get_or, ℤ, pos, negsuc, Some, None, decimal, Option, sym, refl, ap, ◌∙◌, subst, arith}
use borrow.Author.Tests.{both_ways}
use Rattle.std.specs.Str.Parse.{digits_value}
use Rattle.std.specs.Str.{all_ascii_digits}
use Rattle.std.proofs.lemmas.Bool.Decides.{nat_tests}
use Rattle.std.proofs.lemmas.Str.Parse.{IsNumeralModel, numerals_by_value, tells_all_ascii_digits, digits_value_short}
use Rattle.std.proofs.lemmas.Fmt.{decimal-digits_value, digits_decimal, first_decimal, decimal_nonempty, length-decimal-le, decimal_digit, decimal_injective}
use Rattle.cards.specs.Numbers.{is_plain, plain_in, as_positive, as_negative, IsText, number_in}
use Rattle.cards.specs.Texts.{IsPlain, ReadsPlain, ReadsSigned}
use Rattle.cards.proofs.Signs.{no_plain, none_empty, exact}
use Rattle.std.proofs.lemmas.Bool.{cond_both, eqb-true, eqb-false}

mine : IsNumeralModel (λ ds. all_ascii_digits ds ≡ true) (digits_value 10)
mine = numerals_by_value (λ ds. all_ascii_digits ds ≡ true) tells_all_ascii_digits

parts : (bs : List ℕ) → is_plain bs ≡ true → (all_ascii_digits bs ≡ true) × (0 < length bs) × (length bs ≤ 10) × (get_or bs 0 0 ≡ 48 → length bs ≡ 1)
parts bs e = (grind (arith, nat_tests), grind (arith, nat_tests), grind (arith, nat_tests), λ z. grind (arith, nat_tests))

whole_parts : (bs : List ℕ) → all_ascii_digits bs ≡ true → 0 < length bs → length bs ≤ 10 → (get_or bs 0 0 ≡ 48 → length bs ≡ 1) → is_plain bs ≡ true
whole_parts bs a s l z = grind (arith, nat_tests)

lead : (n : ℕ) → n < 10000000000 → get_or (decimal n) 0 0 ≡ 48 → length (decimal n) ≡ 1
lead zero h e = ap length (decimal_digit 0 (omega arith))
lead (suc n) h e = absurd (omega (arith, first_decimal (suc n) (omega arith) (omega arith)))

plain_decimal : (n : ℕ) → n < 10000000000 → is_plain (decimal n) ≡ true
plain_decimal n h =
    whole_parts (decimal n) (digits_decimal mine n (omega arith)) (decimal_nonempty n (omega arith)) (length-decimal-le 10 n (omega arith) (omega arith) (omega arith)) (lead n h)

go : (bs : List ℕ) (t : Bool) → is_plain bs ≡ t → ReadsPlain bs (cond t (Some (digits_value 10 bs)) None)
go bs true e =
    let p = parts bs e in
    let small : digits_value 10 bs < 10000000000 = digits_value_short mine bs 10 p.0 p.2 in
    (small, sym (decimal-digits_value mine bs p.0 p.1 p.3 (omega arith)))
go bs false e = λ n t. both_ways (is_plain bs) e (subst (λ (x : List ℕ). is_plain x ≡ true) (sym t.1) (plain_decimal n t.0))

pub plain_reads : (bs : List ℕ) → ReadsPlain bs (plain_in bs)
unfolding plain_in
plain_reads bs = go bs (is_plain bs) refl

one_plain : (bs : List ℕ) (m n : ℕ) → IsPlain m bs → IsPlain n bs → m ≡ n
one_plain bs m n h k = decimal_injective m n (omega arith) (omega arith) (sym h.1 ∙ k.1)

tail_is : (b c : ℕ) (bs cs : List ℕ) → b ∷ bs ≡ c ∷ cs → bs ≡ cs
tail_is b c bs cs e = cc

head_is : (b c : ℕ) (bs cs : List ℕ) → b ∷ bs ≡ c ∷ cs → b ≡ c
head_is b c bs cs e = cc

-- A text that begins with a minus sign.
no_minus : (b : ℕ) (bs : List ℕ) → b ≡ 45 → ((n : ℕ) → IsPlain (suc n) bs → ⊥) → (z : ℤ) → IsText z (b ∷ bs) → ⊥
no_minus b bs e h (pos n) t = no_plain (b ∷ bs) n e t
no_minus b bs e h (negsuc n) t = h n (omega arith, tail_is b 45 bs (decimal (suc n)) t.1)

minus_reads : (b : ℕ) (bs : List ℕ) (o : Option ℕ) → b ≡ 45 → ReadsPlain bs o → ReadsSigned (b ∷ bs) (as_negative o)
minus_reads b bs None e h = no_minus b bs e (λ n t. h (suc n) t)
minus_reads b bs (Some zero) e h = no_minus b bs e (λ n t. let same : 0 ≡ suc n = one_plain bs 0 (suc n) h t in omega arith)
minus_reads b bs (Some (suc n)) e h = (omega (arith, h.0), λ i. e i ∷ h.1 i)

-- Any other.
no_plus : (b : ℕ) (bs : List ℕ) → (b ≡ 45 → ⊥) → ((n : ℕ) → IsPlain n (b ∷ bs) → ⊥) → (z : ℤ) → IsText z (b ∷ bs) → ⊥
no_plus b bs other h (pos n) t = h n t
no_plus b bs other h (negsuc n) t = other (head_is b 45 bs (decimal (suc n)) t.1)

plus_reads : (b : ℕ) (bs : List ℕ) (o : Option ℕ) → (b ≡ 45 → ⊥) → ReadsPlain (b ∷ bs) o → ReadsSigned (b ∷ bs) (as_positive o)
plus_reads b bs None other h = no_plus b bs other h
plus_reads b bs (Some n) other h = h

empty_reads : ReadsSigned [] None
empty_reads (pos n) t = none_empty [] refl n t
empty_reads (negsuc n) t = omega (arith, ap length t.1)

pub number_reads : (bs : List ℕ) → ReadsSigned bs (number_in bs)
unfolding number_in
number_reads [] = empty_reads
number_reads (b ∷ bs) =
    cond_both (eqb b 45) _ _ (ReadsSigned (b ∷ bs)) (λ e. minus_reads b bs (plain_in bs) (eqb-true b 45 e) (plain_reads bs)) (λ e. plus_reads b bs (plain_in (b ∷ bs)) (eqb-false b 45 e) (plain_reads (b ∷ bs)))

pub one_signed : (bs : List ℕ) (r s : Option ℤ) → ReadsSigned bs r → ReadsSigned bs s → r ≡ s
one_signed bs r None h k = go r h
  where
    go : (r : Option ℤ) → ReadsSigned bs r → r ≡ None
    go None _ = refl
    go (Some z) t = absurd (k z t)
one_signed bs r (Some z) h k = exact bs r z h k
