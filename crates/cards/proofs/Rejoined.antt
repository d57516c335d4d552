-- A line is a card exactly when it is the card's text.
use Rattle.std.proofs.Common.{◌≡◌, ℕ, zero, suc, ◌+◌, ◌<◌, Bool, true, false, cond, eqb, ltb, List, [], ◌∷◌, ◌++◌, map, length, drop, ℤ, pos, negsuc, Some, None, Ok, Err, decimal, Option, Result, sym, refl, ap, ◌∙◌, arith}
use Rattle.std.proofs.ByRecursion.{All-from_get_or}
use Rattle.std.proofs.lemmas.Slice.Eq.{bytes_eq-Decides}
use Rattle.std.proofs.lemmas.List.{drop_more, drop_all}
use Rattle.std.proofs.lemmas.Bool.{cond_both, cond-true, cond-false, eqb-true, ne_eqb}
use Rattle.std.proofs.lemmas.Bool.Decides.{nat_tests}
use Rattle.std.proofs.lemmas.Str.Parse.{digit_at}
use Rattle.std.proofs.lemmas.Fmt.{digits_decimal}
use Rattle.std.specs.Fmt.{signed_decimal}
use Rattle.std.specs.List.{AllByRecursion}
use Rattle.std.specs.Str.{bytes_eq}
use Rattle.cards.specs.declared.word.Word.{Word}
use Rattle.cards.specs.declared.word.Word.TheVariants as word
use Rattle.cards.specs.declared.card.NumberFault.{NumberFault}
use Rattle.cards.specs.declared.card.CardFault.{CardFault}
use Rattle.cards.specs.declared.card.CardFault.TheVariants.{TooLong, WrongCount}
use Rattle.cards.specs.declared.card.Card.{Card}
use Rattle.cards.specs.declared.card.Card.TheVariants.{Pile, Joint, Brace, Force, Check}
use Rattle.cards.specs.Numbers.{Short, number_in}
use Rattle.cards.specs.Texts.{ReadsSigned}
use Rattle.cards.specs.Words.{word_text, word_in, count, in_place, placed}
use Rattle.cards.specs.Pieces.{onto, fields_of}
use Rattle.cards.specs.Cards.{at, then, numbers_in, card_of_word, by_numbers, by_word, by_fields, card_of}
use Rattle.cards.specs.CardTexts.{joined, card_word, card_numbers, card_text, Readable}
use Rattle.cards.proofs.Shapes.{numbered}
use Rattle.cards.proofs.Signs.{own, exact}
use Rattle.cards.proofs.Plain.{number_reads}

-- ---- the fields of a line, joined again, are the line
fields_some : (bs : List ℕ) → 0 < length (fields_of bs)
fields_some [] = omega arith
fields_some (b ∷ bs) = cond_both (eqb b 44) ([] ∷ fields_of bs) (onto b (fields_of bs)) (λ ps. 0 < length ps) (λ _. omega arith) (λ _. some (fields_of bs))
  where
    some : (ps : List (List ℕ)) → 0 < length (onto b ps)
    some [] = omega arith
    some (p ∷ ps) = omega arith

joined_more : (t : List ℕ) (ps : List (List ℕ)) → 0 < length ps → joined (t ∷ ps) ≡ t ++ 44 ∷ joined ps
joined_more t [] h = absurd (omega arith)
joined_more t (p ∷ ps) h = refl

joined_onto : (b : ℕ) (ps : List (List ℕ)) → joined (onto b ps) ≡ b ∷ joined ps
joined_onto b [] = refl
joined_onto b (p ∷ []) = refl
joined_onto b (p ∷ q ∷ qs) = refl

rejoined : (bs : List ℕ) → joined (fields_of bs) ≡ bs
rejoined [] = refl
rejoined (b ∷ bs) =
    let rest = rejoined bs in
    cond_both (eqb b 44) ([] ∷ fields_of bs) (onto b (fields_of bs)) (λ ps. joined ps ≡ b ∷ bs)
    (λ e. joined_more [] (fields_of bs) (fields_some bs) ∙ (λ i. sym (eqb-true b 44 e) i ∷ rest i))
    (λ _. joined_onto b (fields_of bs) ∙ ap (λ x. b ∷ x) rest)

-- ---- the numbers of the fields
numbers_text : (k : ℕ) (ts : List (List ℕ)) (zs : List ℤ) → numbers_in k ts ≡ Ok zs → ts ≡ map signed_decimal zs
numbers_text k [] zs e = let none : zs ≡ [] = cc in ap (map signed_decimal) (sym none)
numbers_text k (t ∷ ts) zs e = go (number_in t) (numbers_in (k + 1) ts) (number_reads t) refl (λ ys p. numbers_text (k + 1) ts ys p) e
  where
    go : (o : Option ℤ) (r : Result (List ℤ) NumberFault) → ReadsSigned t o → numbers_in (k + 1) ts ≡ r → ((ys : List ℤ) → numbers_in (k + 1) ts ≡ Ok ys → ts ≡ map signed_decimal ys) → then o k r ≡ Ok zs → t ∷ ts ≡ map signed_decimal zs
    go None r reads is rest p = let z : ◌≡◌ {A = ℕ} 0 1 = cc in absurd (omega arith)
    go (Some z) (Err f) reads is rest p = let n : ◌≡◌ {A = ℕ} 0 1 = cc in absurd (omega arith)
    go (Some z) (Ok ys) reads is rest p = let all : zs ≡ z ∷ ys = cc in (λ i. reads.1 i ∷ rest ys is i) ∙ ap (map signed_decimal) (sym all)

text_numbers : (k : ℕ) (zs : List ℤ) → AllByRecursion Short zs → numbers_in k (map signed_decimal zs) ≡ Ok zs
text_numbers k [] s = refl
text_numbers k (z ∷ zs) s =
    ap (λ o. then o k (numbers_in (k + 1) (map signed_decimal zs))) (exact (signed_decimal z) (number_in (signed_decimal z)) z (number_reads (signed_decimal z)) (s.0, refl))
    ∙ ap (then (Some z) k) (text_numbers (k + 1) zs s.1)

-- ---- the word
same_text : (a b : List ℕ) → bytes_eq a b ≡ true → a ≡ b
same_text a b e = let d = bytes_eq-Decides a b in grind (arith, nat_tests)

abbrev Named : List ℕ → Option Word → Type 0
Named bs o = (w : Word) → o ≡ Some w → bs ≡ word_text w

is_named : (bs : List ℕ) (v : Word) → bytes_eq bs (word_text v) ≡ true → Named bs (Some v)
is_named bs v s w e = let same : v ≡ w = cc in same_text bs (word_text v) s ∙ ap word_text same

none_named : (bs : List ℕ) → Named bs None
none_named bs w e = let z : ◌≡◌ {A = ℕ} 0 1 = cc in absurd (omega arith)

word_named : (bs : List ℕ) → Named bs (word_in bs)
word_named bs =
    cond_both (bytes_eq bs (word_text word.Pile)) _ _ (Named bs) (is_named bs word.Pile) (λ _.
    cond_both (bytes_eq bs (word_text word.Joint)) _ _ (Named bs) (is_named bs word.Joint) (λ _.
    cond_both (bytes_eq bs (word_text word.Brace)) _ _ (Named bs) (is_named bs word.Brace) (λ _.
    cond_both (bytes_eq bs (word_text word.Force)) _ _ (Named bs) (is_named bs word.Force) (λ _.
    cond_both (bytes_eq bs (word_text word.Check)) _ _ (Named bs) (is_named bs word.Check) (λ _. none_named bs)))))

placed_named : (ready : Bool) (o : Option Word) (w : Word) → placed ready o ≡ Some w → o ≡ Some w
placed_named ready None w e = e
placed_named ready (Some v) w e = go (in_place ready v) e
  where
    go : (t : Bool) → cond t (Some v) None ≡ Some w → Some v ≡ Some w
    go true p = p
    go false p = let z : ◌≡◌ {A = ℕ} 0 1 = cc in absurd (omega arith)

word_read : (w : Word) → word_in (word_text w) ≡ Some w
word_read word.Pile = refl
word_read word.Joint = refl
word_read word.Brace = refl
word_read word.Force = refl
word_read word.Check = refl

-- ---- a card by its word and its numbers
abbrev listed : ℕ → ℕ → List ℤ → List ℤ
listed k zero zs = []
listed k (suc n) zs = at zs k ∷ listed (k + 1) n zs

listed_drop : (k n : ℕ) (zs : List ℤ) → length zs ≡ k + n → listed k n zs ≡ drop k zs
listed_drop k zero zs e = sym (drop_all k zs (omega arith))
listed_drop k (suc n) zs e = ap (λ x. at zs k ∷ x) (listed_drop (k + 1) n zs (omega arith)) ∙ sym (drop_more zs k (pos 0) (omega arith))

numbers_back : (w : Word) (zs : List ℤ) → length zs + 1 ≡ count w → card_numbers (card_of_word w zs) ≡ zs
numbers_back word.Pile zs e = listed_drop 0 3 zs (omega arith)
numbers_back word.Joint zs e = listed_drop 0 5 zs (omega arith)
numbers_back word.Brace zs e = listed_drop 0 11 zs (omega arith)
numbers_back word.Force zs e = listed_drop 0 8 zs (omega arith)
numbers_back word.Check zs e = listed_drop 0 2 zs (omega arith)

word_back : (w : Word) (zs : List ℤ) → card_word (card_of_word w zs) ≡ w
word_back word.Pile zs = refl
word_back word.Joint zs = refl
word_back word.Brace zs = refl
word_back word.Force zs = refl
word_back word.Check zs = refl

card_back : (c : Card) → card_of_word (card_word c) (card_numbers c) ≡ c
card_back (Pile n) = refl
card_back (Joint j f) = refl
card_back (Brace j b f) = refl
card_back (Force j b f) = refl
card_back (Check j b) = refl

map_length : (zs : List ℤ) → length (map signed_decimal zs) ≡ length zs
map_length [] = refl
map_length (z ∷ zs) = ap suc (map_length zs)

-- ---- an accepted line
module _ (ready : Bool) (c : Card) where
  of_numbers : (w : Word) (t : List ℕ) (ts : List (List ℕ)) → t ≡ word_text w → length ts + 1 ≡ count w → (r : Result (List ℤ) NumberFault) → numbers_in 2 ts ≡ r → by_numbers w r ≡ Ok c → joined (t ∷ ts) ≡ card_text c
  of_numbers w t ts word counted (Err f) is e = let z : ◌≡◌ {A = ℕ} 0 1 = cc in absurd (omega arith)
  of_numbers w t ts word counted (Ok zs) is e =
      let texts = numbers_text 2 ts zs is in
      let long : length zs + 1 ≡ count w = omega (arith, ap length texts, map_length zs) in
      let card : card_of_word w zs ≡ c = cc in
      (λ i. joined (word i ∷ texts i))
      ∙ (λ i. joined (word_text (sym (word_back w zs) i) ∷ map signed_decimal (sym (numbers_back w zs long) i)))
      ∙ ap card_text card

  of_count : (w : Word) (t : List ℕ) (ts : List (List ℕ)) → t ≡ word_text w → (b : Bool) → eqb (length (t ∷ ts)) (count w) ≡ b → cond b (by_numbers w (numbers_in 2 ts)) (Err (WrongCount (length (t ∷ ts)))) ≡ Ok c → joined (t ∷ ts) ≡ card_text c
  of_count w t ts word true b e = of_numbers w t ts word (let n = eqb-true (length (t ∷ ts)) (count w) b in omega arith) (numbers_in 2 ts) refl e
  of_count w t ts word false b e = let z : ◌≡◌ {A = ℕ} 0 1 = cc in absurd (omega arith)

  of_word : (t : List ℕ) (ts : List (List ℕ)) (o : Option Word) → placed ready (word_in t) ≡ o → by_word o (length (t ∷ ts)) ts ≡ Ok c → joined (t ∷ ts) ≡ card_text c
  of_word t ts None is e = let z : ◌≡◌ {A = ℕ} 0 1 = cc in absurd (omega arith)
  of_word t ts (Some w) is e = of_count w t ts (word_named t w (placed_named ready (word_in t) w is)) (eqb (length (t ∷ ts)) (count w)) refl e

  of_fields : (fs : List (List ℕ)) → by_fields ready fs ≡ Ok c → joined fs ≡ card_text c
  of_fields [] e = let z : ◌≡◌ {A = ℕ} 0 1 = cc in absurd (omega arith)
  of_fields (t ∷ ts) e = of_word t ts (placed ready (word_in t)) refl e

  short_enough : (b : Bool) (x : Result Card CardFault) → cond b (Err TooLong) x ≡ Ok c → x ≡ Ok c
  short_enough true x e = let z : ◌≡◌ {A = ℕ} 0 1 = cc in absurd (omega arith)
  short_enough false x e = e

  pub written : (line : List ℕ) → card_of ready line ≡ Ok c → line ≡ card_text c
  unfolding card_of
  written line e = sym (rejoined line) ∙ of_fields (fields_of line) (short_enough (ltb 120 (length line)) (by_fields ready (fields_of line)) e)

-- ---- the text of a card
abbrev NoComma : List ℕ → Type 0
NoComma t = AllByRecursion (λ b. b ≡ 44 → ⊥) t

parted_first : (t r : List ℕ) → NoComma t → fields_of (t ++ 44 ∷ r) ≡ t ∷ fields_of r
parted_first [] r h = refl
parted_first (b ∷ t) r h = cond-false _ _ _ (ne_eqb b 44 h.0) ∙ ap (onto b) (parted_first t r h.1)

parted_last : (t : List ℕ) → NoComma t → fields_of t ≡ t ∷ []
parted_last [] h = refl
parted_last (b ∷ t) h = cond-false _ _ _ (ne_eqb b 44 h.0) ∙ ap (onto b) (parted_last t h.1)

parted_all : (t : List ℕ) (ts : List (List ℕ)) → NoComma t → AllByRecursion NoComma ts → fields_of (joined (t ∷ ts)) ≡ t ∷ ts
parted_all t [] h hs = parted_last t h
parted_all t (u ∷ us) h hs = parted_first t (joined (u ∷ us)) h ∙ ap (λ x. t ∷ x) (parted_all u us hs.0 hs.1)

decimal_plain : (n : ℕ) → n < 10000000000 → NoComma (decimal n)
decimal_plain n h =
    All-from_get_or (λ b. b ≡ 44 → ⊥) (decimal n) 0 (λ i l e. let d = digit_at (decimal n) i (digits_decimal own n (omega arith)) l in omega (arith, d.0))

signed_plain : (z : ℤ) → Short z → NoComma (signed_decimal z)
signed_plain (pos n) h = decimal_plain n h
signed_plain (negsuc n) h = ((λ e. omega arith), decimal_plain (suc n) (omega arith))

numbers_plain : (zs : List ℤ) → AllByRecursion Short zs → AllByRecursion NoComma (map signed_decimal zs)
numbers_plain [] h = tt
numbers_plain (z ∷ zs) h = (signed_plain z h.0, numbers_plain zs h.1)

word_plain : (w : Word) → NoComma (word_text w)
word_plain word.Pile = ((λ e. omega arith), ((λ e. omega arith), ((λ e. omega arith), ((λ e. omega arith), tt))))
word_plain word.Joint = ((λ e. omega arith), ((λ e. omega arith), ((λ e. omega arith), ((λ e. omega arith), ((λ e. omega arith), tt)))))
word_plain word.Brace = ((λ e. omega arith), ((λ e. omega arith), ((λ e. omega arith), ((λ e. omega arith), ((λ e. omega arith), tt)))))
word_plain word.Force = ((λ e. omega arith), ((λ e. omega arith), ((λ e. omega arith), ((λ e. omega arith), ((λ e. omega arith), tt)))))
word_plain word.Check = ((λ e. omega arith), ((λ e. omega arith), ((λ e. omega arith), ((λ e. omega arith), ((λ e. omega arith), tt)))))

numbers_count : (c : Card) → length (map signed_decimal (card_numbers c)) + 1 ≡ count (card_word c)
numbers_count (Pile n) = refl
numbers_count (Joint j f) = refl
numbers_count (Brace j b f) = refl
numbers_count (Force j b f) = refl
numbers_count (Check j b) = refl

pub read_back : (ready : Bool) (c : Card) (line : List ℕ) → Readable ready c → line ≡ card_text c → card_of ready line ≡ Ok c
read_back ready c line h e =
    let t = word_text (card_word c) in
    let ts = map signed_decimal (card_numbers c) in
    let split : fields_of line ≡ t ∷ ts = ap fields_of e ∙ parted_all t ts (word_plain (card_word c)) (numbers_plain (card_numbers c) h.short) in
    let named : placed ready (word_in t) ≡ Some (card_word c) = ap (placed ready) (word_read (card_word c)) ∙ cond-true _ _ _ h.placed in
    let counted : length (fields_of line) ≡ count (card_word c) = (let n = numbers_count c in omega (arith, ap length split)) in
    numbered ready line t ts (omega (arith, ap length e, h.fits)) split (card_word c) named counted
    ∙ ap (by_numbers (card_word c)) (text_numbers 2 (card_numbers c) h.short)
    ∙ ap Ok (card_back c)
