-- The reckoners are bound by what an edition told.
use Rattle.std.proofs.Common.{◌≡◌, ℕ, ◌+◌, ◌*◌, ◌<◌, ◌≤◌, Bool, true, false, nat_abs, Option, Some, None, Ok, sym, refl, subst, arith, lit<}
use Rattle.powers.specs.Fractions.{Positive, positive_of, ◌≤ᶠ◌, ◌÷◌}
use Rattle.verdicts.specs.Reckoners.{squared, Strengths, InUse, tension, kind_of_y, kind_of_x, millimetres, moment_resistance, ratio, utilisation}
use Rattle.std.specs.Option.{unwrap_or, ok_or}
use Rattle.editions.specs.declared.strength.Strength.{Strength}
use Rattle.editions.specs.Meanings.{Meaning, Lawful, Usable, Enclosed, Tells, millionths}
use Rattle.records.specs.declared.kind.Kind.{Kind}
use Rattle.records.specs.declared.kind.Kind.TheVariants.{KAxial, YTension, YCompression, XTension, XCompression, InPlane, OutOfPlane}
use Rattle.records.specs.declared.record.BraceRecord.{BraceRecord}
use Rattle.powers.proofs.Laws.{le_refl, lt_le_trans}
use Rattle.verdicts.specs.declared.force.Force.{Force}
use Rattle.verdicts.specs.declared.ends.Known.{Known}
use Rattle.verdicts.specs.declared.ends.Consulted.{Consulted}
use Rattle.verdicts.specs.declared.ends.Resistance.{Resistance}
use Rattle.verdicts.specs.declared.ends.Ratio.{Ratio}
use Rattle.records.specs.declared.ratios.Ratios.{Ratios}
use Rattle.verdicts.specs.declared.verdict.Spent.{Spent}
use Rattle.verdicts.specs.declared.verdict.Ends.{Ends}
use Rattle.verdicts.specs.declared.verdict.Part.TheVariants.{AxialForce, InPlaneMoment, OutOfPlaneMoment}
use Rattle.verdicts.specs.declared.verdict.Verdict.{Verdict}
use Rattle.verdicts.specs.declared.verdict.Verdict.TheVariants.{Pass, Fail, Near, Far}
use Rattle.verdicts.specs.Bindings.{Between, Binds, Enclosing, NoneSpent, Reckoners}
use Rattle.verdicts.specs.Verdicts.{Tens, Worked}
use Rattle.verdicts.specs.Steps.{Summed, Follows, Sound, Trusts, KnownOf, Knows, Knowing, Encloses, based}
use Rattle.verdicts.proofs.Sizes.{told_near}
use Rattle.verdicts.proofs.Resists.{ratio_low, ratio_high, average_le, average_ge, lever_le, lever_ge}
use Rattle.verdicts.proofs.Sums.{sum_low, sum_high, sum_ordered, sum_close, first_le, second_le, third_le, over_ten, over_one, square_over_one, under_one}

-- What an edition told, where it told a strength.
pub told_of : (m : Meaning) (b : BraceRecord) (q : Ratios) (k : Kind) (o : Option Strength) (s : Strength) (x : Spent) → Tells m b q k o → Ok s ≡ ok_or o x → Enclosed m b q k s.low s.high
told_of m b q k (Some r) s x t e = let same : r ≡ s = cc in subst (λ (z : Strength). Enclosed m b q k z.low z.high) same t
told_of m b q k None s x t e = cc

-- A usable edition's ends are taken as they are told.
pub known_of : (m : Meaning) (b : BraceRecord) (n : Force) (k : Kind) (s : Strength) (o : Option Known) (d e : Known) → Enclosed m b n.ratios k s.low s.high
    → Trusts s o → e ≡ unwrap_or o d → KnownOf m b n k e
known_of m b n k s o d e t h r = record { unspent = t.unspent; enclosed = λ u. subst (λ (x : Known). Enclosed m b n.ratios k x.low x.high) (sym r) (go u o h) }
  where
    sound : Usable m → Sound s.low s.high
    sound u = record {
      firm = omega (arith, t.floored, u.firm);
      ordered = t.ordered;
      top = t.bounded;
      near = told_near s.low s.high m.width t.ordered u.narrow (t.close u);
    }

    go : Usable m → (o : Option Known) → Trusts s o → Enclosed m b n.ratios k (unwrap_or o d).low (unwrap_or o d).high
    go u (Some x) (p, q) = subst (λ (l : ℕ). Enclosed m b n.ratios k l x.high) (sym p) (subst (λ (h : ℕ). Enclosed m b n.ratios k s.low h) (sym q) t)
    go u None h = absurd (h (sound u))

-- The kinds in use, class by class.
pub y_in_use : (b : BraceRecord) (n : Force) → 0 < b.shares.y → InUse b n (kind_of_y (tension n.n))
y_in_use b n h = go (tension n.n) refl
  where
    go : (t : Bool) → tension n.n ≡ t → InUse b n (kind_of_y t)
    go true e = (e, h)
    go false e = (e, h)

pub x_in_use : (b : BraceRecord) (n : Force) → 0 < b.shares.x → InUse b n (kind_of_x (tension n.n))
x_in_use b n h = go (tension n.n) refl
  where
    go : (t : Bool) → tension n.n ≡ t → InUse b n (kind_of_x t)
    go true e = (e, h)
    go false e = (e, h)

pub each_in_use : (b : BraceRecord) (n : Force) (P : Kind → Type 0) → (0 < b.shares.k → P KAxial) → (0 < b.shares.y → P (kind_of_y (tension n.n)))
    → (0 < b.shares.x → P (kind_of_x (tension n.n))) → P InPlane → P OutOfPlane → (k : Kind) → InUse b n k → P k
each_in_use b n P k y x i o KAxial u = k u
each_in_use b n P k y x i o YTension (e, h) = subst (λ (t : Bool). P (kind_of_y t)) e (y h)
each_in_use b n P k y x i o YCompression (e, h) = subst (λ (t : Bool). P (kind_of_y t)) e (y h)
each_in_use b n P k y x i o XTension (e, h) = subst (λ (t : Bool). P (kind_of_x t)) e (x h)
each_in_use b n P k y x i o XCompression (e, h) = subst (λ (t : Bool). P (kind_of_x t)) e (x h)
each_in_use b n P k y x i o InPlane u = i
each_in_use b n P k y x i o OutOfPlane u = o

pub none_spent : (m : Meaning) (b : BraceRecord) (n : Force) (c : Consulted) → Knowing m b n c → NoneSpent m b n
none_spent m b n c t = each_in_use b n (λ k. m.spent b n.ratios k ≡ false) (λ h. (t.k h).unspent) (λ h. (t.y h).unspent) (λ h. (t.x h).unspent)
    (t.inner (lit< tt)).unspent (t.outer (lit< tt)).unspent

module _ (m : Meaning) (w : Lawful m) (u : Usable m) (b : BraceRecord) (n : Force) where
  -- one strength
  cautious_le : (k : Kind) (share : ℕ) (e : Known) (f : Positive) → Knows m b n k share e → (0 < share → m.notAbove b n.ratios k f) → 0 < share → f.value ≤ᶠ millionths e.high
  cautious_le k share e f t c h = let s = (t h).enclosed u in w.between b n.ratios k f (positive_of (millionths e.high) s.positive) (c h) s.over

  bold_ge : (k : Kind) (share : ℕ) (e : Known) (f : Positive) → Knows m b n k share e → (0 < share → m.notBelow b n.ratios k f) → 0 < share → millionths e.low ≤ᶠ f.value
  bold_ge k share e f t c h = let p : 0 < e.low = omega arith in w.between b n.ratios k (positive_of (millionths e.low) p) f (((t h).enclosed u).under p) (c h)

  module _ (c : Consulted) (t : Knowing m b n c) where
    pub axial_between : (r : Resistance) (e : Ratio) (load : ℕ) → load ≡ nat_abs n.n
        → r.low ≡ based b (b.shares.k * c.k.low + b.shares.y * c.y.low + b.shares.x * c.x.low)
        → r.high ≡ based b (b.shares.k * c.k.high + b.shares.y * c.y.high + b.shares.x * c.x.high)
        → Encloses load b r e → Between m b n (ratio b n AxialForce) e.low e.high
    axial_between r e load l p q h = record {
      cautious = λ f u.
          ratio_low b (nat_abs n.n) (b.shares.k * c.k.high + b.shares.y * c.y.high + b.shares.x * c.x.high) e.low _
          (average_le b.shares.k b.shares.y b.shares.x c.k.high c.y.high c.x.high _ _ _
          (cautious_le KAxial b.shares.k c.k (f KAxial) t.k (u KAxial))
          (cautious_le (kind_of_y (tension n.n)) b.shares.y c.y (f (kind_of_y (tension n.n))) t.y (λ s. u _ (y_in_use b n s)))
          (cautious_le (kind_of_x (tension n.n)) b.shares.x c.x (f (kind_of_x (tension n.n))) t.x (λ s. u _ (x_in_use b n s))))
          (rw (← l, ← q) h.low);
      bold = λ f u.
          ratio_high b (nat_abs n.n) (b.shares.k * c.k.low + b.shares.y * c.y.low + b.shares.x * c.x.low) e.high _
          (average_ge b.shares.k b.shares.y b.shares.x c.k.low c.y.low c.x.low _ _ _
          (bold_ge KAxial b.shares.k c.k (f KAxial) t.k (u KAxial))
          (bold_ge (kind_of_y (tension n.n)) b.shares.y c.y (f (kind_of_y (tension n.n))) t.y (λ s. u _ (y_in_use b n s)))
          (bold_ge (kind_of_x (tension n.n)) b.shares.x c.x (f (kind_of_x (tension n.n))) t.x (λ s. u _ (x_in_use b n s))))
          (rw (← l, ← p) h.high);
    }

  -- a moment: 1000 newton-millimetres to the newton-metre
  moment_low : (k : Kind) (e : Known) (r : Resistance) (x : Ratio) (load : ℕ) (f : Positive) → Knows m b n k 1 e → m.notAbove b n.ratios k f
      → r.high ≡ based b (b.brace * e.high) → Encloses load b r x → millionths x.low ≤ᶠ millimetres load ÷ moment_resistance b f
  moment_low k e r x load f t u q h =
      let o : 0 < 1 = lit< tt in
      let g : x.low * based b (b.brace * e.high) ≤ load * b.sine * 100000000000 = rw (← q) h.low in
      ratio_low b (1000 * load) (1000 * (b.brace * e.high)) x.low _ (lever_le b.brace e.high f.value (cautious_le k 1 e f t (λ _. u) o)) (omega arith)

  moment_high : (k : Kind) (e : Known) (r : Resistance) (x : Ratio) (load : ℕ) (f : Positive) → Knows m b n k 1 e → m.notBelow b n.ratios k f
      → r.low ≡ based b (b.brace * e.low) → Encloses load b r x → millimetres load ÷ moment_resistance b f ≤ᶠ millionths x.high
  moment_high k e r x load f t u q h =
      let o : 0 < 1 = lit< tt in
      let g : load * b.sine * 100000000000 ≤ x.high * based b (b.brace * e.low) = rw (← q) h.high in
      ratio_high b (1000 * load) (1000 * (b.brace * e.low)) x.high _ (lever_ge b.brace e.low f.value (bold_ge k 1 e f t (λ _. u) o)) (omega arith)

  pub inner_between : (e : Known) (r : Resistance) (x : Ratio) (load : ℕ) → load ≡ nat_abs n.my → Knows m b n InPlane 1 e
      → r.low ≡ based b (b.brace * e.low) → r.high ≡ based b (b.brace * e.high) → Encloses load b r x → Between m b n (ratio b n InPlaneMoment) x.low x.high
  inner_between e r x load l t p q h = record {
    cautious = λ f u. rw (← l) (moment_low InPlane e r x load (f InPlane) t (u InPlane tt) q h);
    bold = λ f u. rw (← l) (moment_high InPlane e r x load (f InPlane) t (u InPlane tt) p h);
  }

  pub outer_between : (e : Known) (r : Resistance) (x : Ratio) (load : ℕ) → load ≡ nat_abs n.mz → Knows m b n OutOfPlane 1 e
      → r.low ≡ based b (b.brace * e.low) → r.high ≡ based b (b.brace * e.high) → Encloses load b r x → Between m b n (ratio b n OutOfPlaneMoment) x.low x.high
  outer_between e r x load l t p q h = record {
    cautious = λ f u. rw (← l) (moment_low OutOfPlane e r x load (f OutOfPlane) t (u OutOfPlane tt) q h);
    bold = λ f u. rw (← l) (moment_high OutOfPlane e r x load (f OutOfPlane) t (u OutOfPlane tt) p h);
  }

abbrev ends_of : Ratio → Ends
ends_of e = record { low = e.low; high = e.high }

ratio_close : (e : Ratio) → e.high * 1000 ≤ e.low * 1001 + 5000
ratio_close e = omega (arith, e.near)

-- What follows from the ends of the three ratios.
module _ (m : Meaning) (b : BraceRecord) (n : Force) (a i o : Ratio)
    (p : Between m b n (ratio b n AxialForce) a.low a.high) (q : Between m b n (ratio b n InPlaneMoment) i.low i.high) (r : Between m b n (ratio b n OutOfPlaneMoment) o.low o.high) where
  enclosing : (e : Ends) → Summed a i o e → Enclosing m b n e
  enclosing e s = record {
    between = record {
      cautious = λ f u. rw s.low (sum_low a.low i.low o.low (ratio b n AxialForce f) (ratio b n InPlaneMoment f) (ratio b n OutOfPlaneMoment f) (p.cautious f u) (q.cautious f u) (r.cautious f u));
      bold = λ f u. rw s.high (sum_high a.high i.high o.high (ratio b n AxialForce f) (ratio b n InPlaneMoment f) (ratio b n OutOfPlaneMoment f) (p.bold f u) (q.bold f u) (r.bold f u));
    };
    ordered = rw (s.low, s.high) (sum_ordered a.low a.high i.low i.high o.low o.high a.ordered i.ordered o.ordered);
    close = rw (s.low, s.high) (sum_close a.low a.high i.low i.high o.low o.high a.near i.near o.near);
  }

  pub binds : (v : Verdict) → Follows a i o v → Binds m b n v
  binds (Pass e) (s, h) = record {
    ends = enclosing e s;
    side = h;
    bold = λ f u. under_one e.high (utilisation b n f) h ((enclosing e s).between.bold f u);
  }
  binds (Fail e) (s, h) = record {
    ends = enclosing e s;
    side = h;
    cautious = λ f u. over_one e.low (utilisation b n f) h ((enclosing e s).between.cautious f u);
  }
  binds (Near e) (s, h, k) = record { ends = enclosing e s; lower = h; upper = k }
  binds (Far AxialForce) h = record {
    ten = λ f u. over_ten a.low (ratio b n AxialForce f) h (p.cautious f u);
    cautious = λ f u. lt_le_trans (over_one a.low (ratio b n AxialForce f) (omega arith) (p.cautious f u)) (first_le (ratio b n AxialForce f) (squared (ratio b n InPlaneMoment f)) (ratio b n OutOfPlaneMoment f));
  }
  binds (Far InPlaneMoment) (_, h) = record {
    ten = λ f u. over_ten i.low (ratio b n InPlaneMoment f) h (q.cautious f u);
    cautious = λ f u. lt_le_trans (square_over_one i.low (ratio b n InPlaneMoment f) h (q.cautious f u)) (second_le (ratio b n AxialForce f) (squared (ratio b n InPlaneMoment f)) (ratio b n OutOfPlaneMoment f));
  }
  binds (Far OutOfPlaneMoment) (_, _, h) = record {
    ten = λ f u. over_ten o.low (ratio b n OutOfPlaneMoment f) h (r.cautious f u);
    cautious = λ f u. lt_le_trans (over_one o.low (ratio b n OutOfPlaneMoment f) (omega arith) (r.cautious f u)) (third_le (ratio b n AxialForce f) (squared (ratio b n InPlaneMoment f)) (ratio b n OutOfPlaneMoment f));
  }

  tens : (v : Verdict) → Follows a i o v → Tens (ends_of a) (ends_of i) (ends_of o) v
  tens (Pass e) (s, h) = (s.axial, s.inner, s.outer)
  tens (Fail e) (s, h) = (s.axial, s.inner, s.outer)
  tens (Near e) (s, h, k) = (s.axial, s.inner, s.outer)
  tens (Far AxialForce) h = h
  tens (Far InPlaneMoment) h = h
  tens (Far OutOfPlaneMoment) h = h

  pub worked : (v : Verdict) → Follows a i o v → Worked m b n v
  worked v s = record {
    axial = ends_of a;
    inner = ends_of i;
    outer = ends_of o;
    axially = record { between = p; ordered = a.ordered; close = ratio_close a };
    innerly = record { between = q; ordered = i.ordered; close = ratio_close i };
    outerly = record { between = r; ordered = o.ordered; close = ratio_close o };
    tens = tens v s;
  }

-- Strengths by class and by moment.
abbrev by_class : Positive → Positive → Positive → Positive → Positive → Strengths
by_class k y x i o KAxial = k
by_class k y x i o YTension = y
by_class k y x i o YCompression = y
by_class k y x i o XTension = x
by_class k y x i o XCompression = x
by_class k y x i o InPlane = i
by_class k y x i o OutOfPlane = o

y_class : (k y x i o : Positive) (t : Bool) → by_class k y x i o (kind_of_y t) ≡ y
y_class k y x i o true = refl
y_class k y x i o false = refl

x_class : (k y x i o : Positive) (t : Bool) → by_class k y x i o (kind_of_x t) ≡ x
x_class k y x i o true = refl
x_class k y x i o false = refl

abbrev low_of : Known → Positive
low_of e = positive_of (millionths e.low) (omega arith)

abbrev high_of : Known → Positive
high_of e = positive_of (millionths e.high) (omega arith)

-- The edition's own ends are a cautious and a bold reckoner's strengths.
pub reckoners : (m : Meaning) → Lawful m → Usable m → (b : BraceRecord) (n : Force) (c : Consulted) → Knowing m b n c → Reckoners m b n
reckoners m w u b n c t = record {
  careful = lows;
  is_careful = each_in_use b n (λ k. m.notAbove b n.ratios k (lows k))
      (λ h. ((t.k h).enclosed u).under _)
      (λ h. rw (y_class _ _ _ _ _ (tension n.n)) (((t.y h).enclosed u).under _))
      (λ h. rw (x_class _ _ _ _ _ (tension n.n)) (((t.x h).enclosed u).under _))
      (((t.inner (lit< tt)).enclosed u).under _) (((t.outer (lit< tt)).enclosed u).under _);
  daring = highs;
  is_daring = each_in_use b n (λ k. m.notBelow b n.ratios k (highs k))
      (λ h. w.up _ _ _ (positive_of (millionths c.k.high) ((t.k h).enclosed u).positive) (high_of c.k) le_refl ((t.k h).enclosed u).over)
      (λ h. rw (y_class _ _ _ _ _ (tension n.n)) (w.up _ _ _ (positive_of (millionths c.y.high) ((t.y h).enclosed u).positive) (high_of c.y) le_refl ((t.y h).enclosed u).over))
      (λ h. rw (x_class _ _ _ _ _ (tension n.n)) (w.up _ _ _ (positive_of (millionths c.x.high) ((t.x h).enclosed u).positive) (high_of c.x) le_refl ((t.x h).enclosed u).over))
      (w.up _ _ _ (positive_of (millionths c.inner.high) ((t.inner (lit< tt)).enclosed u).positive) (high_of c.inner) le_refl ((t.inner (lit< tt)).enclosed u).over)
      (w.up _ _ _ (positive_of (millionths c.outer.high) ((t.outer (lit< tt)).enclosed u).positive) (high_of c.outer) le_refl ((t.outer (lit< tt)).enclosed u).over);
}
  where
    lows : Strengths
    lows = by_class (low_of c.k) (low_of c.y) (low_of c.x) (low_of c.inner) (low_of c.outer)

    highs : Strengths
    highs = by_class (high_of c.k) (high_of c.y) (high_of c.x) (high_of c.inner) (high_of c.outer)
