-- The list of the kinds in use finds what their definition one by one says.
use Rattle.std.proofs.Common.{◌≡◌, ℕ, ◌<◌, Bool, true, false, ltb, List, [], ◌∷◌, Some, None, sym, refl, ◌∙◌, subst, arith, lit<}
use Rattle.std.proofs.lemmas.Bool.{cond-true, cond-false, cond_both, ltb-true, lt-ltb}
use Rattle.records.specs.Kinds.{number}
use Rattle.records.specs.declared.kind.Kind.{Kind}
use Rattle.records.specs.declared.kind.Kind.TheVariants.{KAxial, YTension, YCompression, XTension, XCompression, InPlane, OutOfPlane}
use Rattle.records.specs.declared.record.BraceRecord.{BraceRecord}
use Rattle.editions.specs.Meanings.{Meaning}
use Rattle.verdicts.specs.declared.force.Force.{Force}
use Rattle.verdicts.specs.Reckoners.{tension, kind_of_y, kind_of_x, InUse}
use Rattle.verdicts.specs.Bindings.{FirstSpent, NoneSpent}
use Rattle.verdicts.proofs.Bounds.{y_in_use, x_in_use}
use Rattle.ledger.specs.Ledger.{find}
use Rattle.book.specs.Uses.{with_share, kinds_in_use, first_spent}

-- One kind with its share, before others.
module _ (share : ℕ) (k : Kind) (ks : List Kind) (p : Kind → Bool) where
  past : (0 < share → p k ≡ false) → find p (with_share share k ks) ≡ find p ks
  past f = cond_both (ltb 0 share) (k ∷ ks) ks (λ xs. find p xs ≡ find p ks) (λ e. cond-false _ _ _ (f (ltb-true _ _ e))) (λ _. refl)

  here : 0 < share → p k ≡ true → find p (with_share share k ks) ≡ Some k
  here h e = let at : find p (k ∷ ks) ≡ Some k = cond-true _ _ _ e in rw (lt-ltb 0 share h) at

-- The numbers of the axial kinds are below those of the moments.
y_below : (t : Bool) → number (kind_of_y t) < 6
y_below true = lit< tt
y_below false = lit< tt

x_below : (t : Bool) → number (kind_of_x t) < 6
x_below true = lit< tt
x_below false = lit< tt

module _ (m : Meaning) (b : BraceRecord) (n : Force) where
  abbrev spent : Kind → Bool
  spent k = m.spent b n.ratios k

  abbrev of_moments : List Kind
  of_moments = InPlane ∷ OutOfPlane ∷ []

  abbrev from_x : List Kind
  from_x = with_share b.shares.x (kind_of_x (tension n.n)) of_moments

  abbrev from_y : List Kind
  from_y = with_share b.shares.y (kind_of_y (tension n.n)) from_x

  past_k : (0 < b.shares.k → spent KAxial ≡ false) → find spent (kinds_in_use b n) ≡ find spent from_y
  past_k f = past b.shares.k KAxial from_y spent f

  past_y : (0 < b.shares.y → spent (kind_of_y (tension n.n)) ≡ false) → find spent from_y ≡ find spent from_x
  past_y f = past b.shares.y (kind_of_y (tension n.n)) from_x spent f

  past_x : (0 < b.shares.x → spent (kind_of_x (tension n.n)) ≡ false) → find spent from_x ≡ find spent of_moments
  past_x f = past b.shares.x (kind_of_x (tension n.n)) of_moments spent f

  pub none_found : NoneSpent m b n → first_spent m b n ≡ None
  none_found f =
      past_k (f KAxial)
      ∙ past_y (λ h. f _ (y_in_use b n h))
      ∙ past_x (λ h. f _ (x_in_use b n h))
      ∙ cond-false _ _ _ (f InPlane tt)
      ∙ cond-false _ _ _ (f OutOfPlane tt)

  -- Where it is known whether the force is a pull, the kind of a class is known.
  class_here : (kind : Bool → Kind) (share : ℕ) (ks : List Kind) (t : Bool) → tension n.n ≡ t → 0 < share → spent (kind t) ≡ true
      → find spent (with_share share (kind (tension n.n)) ks) ≡ Some (kind t)
  class_here kind share ks t e h s =
      subst (λ (x : Bool). find spent (with_share share (kind x) ks) ≡ Some (kind t)) (sym e) (here share (kind t) ks spent h s)

  y_unspent : (t : Bool) → tension n.n ≡ t → (InUse b n (kind_of_y t) → spent (kind_of_y t) ≡ false) → 0 < b.shares.y → spent (kind_of_y (tension n.n)) ≡ false
  y_unspent t e f h = subst (λ (x : Bool). spent (kind_of_y x) ≡ false) (sym e) (f (subst (λ (x : Bool). InUse b n (kind_of_y x)) e (y_in_use b n h)))

  pub first_found : (k : Kind) → FirstSpent m b n k → first_spent m b n ≡ Some k
  first_found KAxial s = here b.shares.k KAxial from_y spent s.used s.spent
  first_found YTension s = past_k (s.first KAxial (lit< tt)) ∙ class_here kind_of_y b.shares.y from_x true s.used.0 s.used.1 s.spent
  first_found YCompression s = past_k (s.first KAxial (lit< tt)) ∙ class_here kind_of_y b.shares.y from_x false s.used.0 s.used.1 s.spent
  first_found XTension s =
      past_k (s.first KAxial (lit< tt)) ∙ past_y (y_unspent true s.used.0 (s.first YTension (lit< tt))) ∙ class_here kind_of_x b.shares.x of_moments true s.used.0 s.used.1 s.spent
  first_found XCompression s =
      past_k (s.first KAxial (lit< tt)) ∙ past_y (y_unspent false s.used.0 (s.first YCompression (lit< tt))) ∙ class_here kind_of_x b.shares.x of_moments false s.used.0 s.used.1 s.spent
  first_found InPlane s =
      past_k (s.first KAxial (lit< tt))
      ∙ past_y (λ h. s.first _ (y_below (tension n.n)) (y_in_use b n h))
      ∙ past_x (λ h. s.first _ (x_below (tension n.n)) (x_in_use b n h))
      ∙ cond-true _ _ _ s.spent
  first_found OutOfPlane s =
      past_k (s.first KAxial (lit< tt))
      ∙ past_y (λ h. s.first _ (let below = y_below (tension n.n) in omega arith) (y_in_use b n h))
      ∙ past_x (λ h. s.first _ (let below = x_below (tension n.n) in omega arith) (x_in_use b n h))
      ∙ cond-false _ _ _ (s.first InPlane (lit< tt) tt)
      ∙ cond-true _ _ _ s.spent
