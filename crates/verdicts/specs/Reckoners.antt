-- How a reckoner finds the utilisation of a brace from strengths of their own: someone with a pencil, and any positive strengths.
--
--     Strengths                 a positive strength for each kind
--     tension z                 the axial force z is a pull; no force counts as one
--     kind_of_y, kind_of_x      the kind of Y, or of X, that a pull or a push asks for
--     InUse b n k               the kind k is in use: an axial one of the force's sign with a share above 0, or a moment's
--     axial_resistance b n f    (fy T²/100) / sine times the strengths of the classes, averaged by their shares; in newtons
--     moment_resistance b s     (fy T²/100) / sine times d times the strength s; in newton-millimetres
--     ratio b n p f             the part p of the force over what resists it
--     utilisation b n f         the axial ratio, the square of the in-plane one and the out-of-plane one, added up
--
-- Assumes nothing.
use Rattle.std.specs.Prelude.{◌≡◌, ℕ, ◌+◌, ◌*◌, ◌<◌, Bool, true, false, cond, ◌⊎◌, ℤ, pos, negsuc, unsigned_abs}
use Rattle.std.proofs.Common.{mul-pos, eq-zero-or-pos, arith, inl, inr, lit<}
use Rattle.powers.specs.Fractions.{Fraction, Positive, den_positive, num_positive, positive_of, number, quotient, ◌+ᶠ◌, ◌*ᶠ◌, ◌÷◌, ◌*⁺◌, ◌÷⁺◌}
use Rattle.editions.specs.Meanings.{millionths}
use Rattle.records.specs.declared.kind.Kind.{Kind}
use Rattle.records.specs.declared.kind.Kind.TheVariants.{KAxial, YTension, YCompression, XTension, XCompression, InPlane, OutOfPlane}
use Rattle.records.specs.declared.record.BraceRecord.{BraceRecord}
use Rattle.verdicts.specs.declared.force.Force.{Force}
use Rattle.verdicts.specs.declared.verdict.Part.{Part}
use Rattle.verdicts.specs.declared.verdict.Part.TheVariants.{AxialForce, InPlaneMoment, OutOfPlaneMoment}

abbrev pub whole_number : ℕ → Fraction
whole_number n = number n 1

abbrev pub thousandths : ℕ → Fraction
thousandths n = number n 1000

abbrev pub squared : Fraction → Fraction
squared f = f *ᶠ f

-- A strength for each kind.
abbrev pub Strengths : Type 0
Strengths = Kind → Positive

-- No force counts as tension.
abbrev pub tension : ℤ → Bool
tension (pos _) = true
tension (negsuc _) = false

abbrev pub kind_of_y : Bool → Kind
kind_of_y pulled = cond pulled YTension YCompression

abbrev pub kind_of_x : Bool → Kind
kind_of_x pulled = cond pulled XTension XCompression

-- The kinds in use: the axial ones of the force's sign with a share above 0, and both moment kinds.
abbrev pub InUse : BraceRecord → Force → Kind → Type 0
InUse b n KAxial = 0 < b.shares.k
InUse b n YTension = (tension n.n ≡ true) × (0 < b.shares.y)
InUse b n YCompression = (tension n.n ≡ false) × (0 < b.shares.y)
InUse b n XTension = (tension n.n ≡ true) × (0 < b.shares.x)
InUse b n XCompression = (tension n.n ≡ false) × (0 < b.shares.x)
InUse b n InPlane = Unit {0}
InUse b n OutOfPlane = Unit {0}

-- fy T² / 100, in newtons, with T in tenths of a millimetre
abbrev pub wall_force : BraceRecord → Positive
wall_force b = positive_of (quotient (b.fy * (b.wall * b.wall)) 100 (lit< tt)) (mul-pos (omega arith) (mul-pos (omega arith) (omega arith)))

abbrev pub sine : BraceRecord → Positive
sine b = positive_of (millionths b.sine) (omega arith)

-- The brace force that a strength of 1 resists.
abbrev pub unit : BraceRecord → Positive
unit b = wall_force b ÷⁺ sine b

-- The strengths of the classes, averaged by their shares.
abbrev pub average : BraceRecord → Force → Strengths → Fraction
average b n f =
    thousandths b.shares.k *ᶠ (f KAxial).value
    +ᶠ thousandths b.shares.y *ᶠ (f (kind_of_y (tension n.n))).value
    +ᶠ thousandths b.shares.x *ᶠ (f (kind_of_x (tension n.n))).value

-- One of three shares that make up a thousand is above 0, so the average of positive strengths is.
pub average_positive : (k y x : ℕ) (p q r : Positive) → k + y + x ≡ 1000
    → 0 < (thousandths k *ᶠ p.value +ᶠ thousandths y *ᶠ q.value +ᶠ thousandths x *ᶠ r.value).num
average_positive k y x p q r e = go (eq-zero-or-pos k) (eq-zero-or-pos y)
  where
    third : 0 < x → 0 < (thousandths k *ᶠ p.value +ᶠ thousandths y *ᶠ q.value +ᶠ thousandths x *ᶠ r.value).num
    third h =
        let t = mul-pos (mul-pos h (num_positive r)) (mul-pos (den_positive p.value) (den_positive q.value)) in omega arith

    go : (k ≡ 0) ⊎ (0 < k) → (y ≡ 0) ⊎ (0 < y) → 0 < (thousandths k *ᶠ p.value +ᶠ thousandths y *ᶠ q.value +ᶠ thousandths x *ᶠ r.value).num
    go (inr h) _ = let t = mul-pos (mul-pos h (num_positive p)) (mul-pos (den_positive q.value) (den_positive r.value)) in omega arith
    go (inl z) (inr h) = let t = mul-pos (mul-pos h (num_positive q)) (mul-pos (den_positive p.value) (den_positive r.value)) in omega arith
    go (inl z) (inl w) = third (omega arith)

-- In newtons.
abbrev pub axial_resistance : BraceRecord → Force → Strengths → Positive
axial_resistance b n f = unit b *⁺ positive_of (average b n f) (average_positive b.shares.k b.shares.y b.shares.x (f KAxial) (f (kind_of_y (tension n.n))) (f (kind_of_x (tension n.n))) b.shares.whole)

-- In newton-millimetres.
abbrev pub moment_resistance : BraceRecord → Positive → Positive
moment_resistance b strength = unit b *⁺ (positive_of (whole_number b.brace) (omega arith) *⁺ strength)

-- newton-metres in newton-millimetres
abbrev pub millimetres : ℕ → Fraction
millimetres m = whole_number (1000 * m)

abbrev pub ratio : BraceRecord → Force → Part → Strengths → Fraction
ratio b n AxialForce f = whole_number (unsigned_abs n.n) ÷ axial_resistance b n f
ratio b n InPlaneMoment f = millimetres (unsigned_abs n.my) ÷ moment_resistance b (f InPlane)
ratio b n OutOfPlaneMoment f = millimetres (unsigned_abs n.mz) ÷ moment_resistance b (f OutOfPlane)

abbrev pub utilisation : BraceRecord → Force → Strengths → Fraction
utilisation b n f = ratio b n AxialForce f +ᶠ squared (ratio b n InPlaneMoment f) +ᶠ ratio b n OutOfPlaneMoment f
