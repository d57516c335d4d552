-- The chord's factor as it is computed, in two sums without a sign, is the factor as it is written.
use Rattle.std.proofs.Common.{◌≡◌, ℕ, suc, ◌+◌, ◌-◌, ◌*◌, ◌<◌, ◌≤◌, true, false, ℤ, pos, negsuc, ◌+ℤ◌, ◌-ℤ◌, ◌*ℤ◌, refl, max, sym, ap, ◌∙◌, arith}
use borrow.Author.Differences.{up, down, ints}
use Rattle.records.specs.declared.ratios.Ratios.{Ratios}
use Rattle.records.specs.Signs.{size}
use Rattle.editions.specs.declared.coefficients.Weights.{Weights}
use Rattle.editions.specs.declared.coefficients.Signs.{Signs}
use Rattle.powers.specs.declared.quotient.Quotient.{Quotient}
use Rattle.editions.specs.Chords.{ChordFactor, ChordCoefficients, spent, api_q_f, iso_q_f, Left, Split, axial_square, bending_square}

pub square_reads : (p : ℤ) → pos (size p * size p) ≡ p *ℤ p
square_reads (pos n) = omega (arith, ints)
square_reads (negsuc n) = omega (arith, ints)

abbrev pub gain : ChordCoefficients → Signs → ℕ
gain c s = 1000000000 * c.over + 10000 * (c.rise * s.tension + c.fall * s.compression + c.close * s.opening)

abbrev pub loss : ChordCoefficients → Signs → ℕ
loss c s = 10000 * (c.rise * s.compression + c.fall * s.tension + c.close * s.closing) + c.square * (axial_square s + bending_square s)

-- c1 is rise less fall
qf_reads : (n rise fall close square : ℕ) (c1 : ℤ) → up c1 + fall ≡ down c1 + rise → (p mi mo : ℤ)
    → pos (1000000000 * n + 10000 * (rise * up p + fall * down p + close * down mi)) -ℤ pos (10000 * (rise * down p + fall * up p + close * up mi) + square * (size p * size p + (size mi * size mi + size mo * size mo)))
    ≡ ((pos (1000000000 * n) +ℤ (c1 *ℤ p) *ℤ pos 10000) -ℤ (pos close *ℤ mi) *ℤ pos 10000) -ℤ (pos square *ℤ ((p *ℤ p +ℤ mi *ℤ mi) +ℤ mo *ℤ mo))
qf_reads n rise fall close square c1 e (pos p) (pos mi) (pos mo) = omega (arith, ints, ap (λ (k : ℕ). k * p) e)
qf_reads n rise fall close square c1 e (pos p) (pos mi) (negsuc mo) = omega (arith, ints, ap (λ (k : ℕ). k * p) e)
qf_reads n rise fall close square c1 e (pos p) (negsuc mi) (pos mo) = omega (arith, ints, ap (λ (k : ℕ). k * p) e)
qf_reads n rise fall close square c1 e (pos p) (negsuc mi) (negsuc mo) = omega (arith, ints, ap (λ (k : ℕ). k * p) e)
qf_reads n rise fall close square c1 e (negsuc p) (pos mi) (pos mo) = omega (arith, ints, ap (λ (k : ℕ). k * suc p) e)
qf_reads n rise fall close square c1 e (negsuc p) (pos mi) (negsuc mo) = omega (arith, ints, ap (λ (k : ℕ). k * suc p) e)
qf_reads n rise fall close square c1 e (negsuc p) (negsuc mi) (pos mo) = omega (arith, ints, ap (λ (k : ℕ). k * suc p) e)
qf_reads n rise fall close square c1 e (negsuc p) (negsuc mi) (negsuc mo) = omega (arith, ints, ap (λ (k : ℕ). k * suc p) e)

pub api_reads : (c : ChordCoefficients) (q : Ratios) (s : Signs) → Split q s → pos (gain c s) -ℤ pos (loss c s) ≡ (api_q_f c q).num
api_reads c q s h =
    rw (h.tension, h.compression, h.closing, h.opening, h.side)
    (qf_reads c.over c.rise c.fall c.close c.square (pos c.rise -ℤ pos c.fall) (omega (arith, ints)) q.p q.mi q.mo)

abbrev pub iso_loss : Weights → Signs → ℕ
iso_loss c s = c.w * (c.axial * axial_square s + c.bending * bending_square s)

iso_qf_reads : (w a b : ℕ) (p mi mo : ℤ)
    → pos 100000000000 -ℤ pos (w * (a * (size p * size p) + b * (size mi * size mi + size mo * size mo)))
    ≡ pos 100000000000 -ℤ (pos w *ℤ (pos a *ℤ (p *ℤ p) +ℤ pos b *ℤ (mi *ℤ mi +ℤ mo *ℤ mo)))
iso_qf_reads w a b p mi mo = rw (← square_reads p, ← square_reads mi, ← square_reads mo) refl

pub iso_reads : (c : Weights) (q : Ratios) (s : Signs) → Split q s → pos 100000000000 -ℤ pos (iso_loss c s) ≡ (iso_q_f c q).num
iso_reads c q s h = rw (h.tension, h.compression, h.closing, h.opening, h.side) (iso_qf_reads c.w c.axial c.bending q.p q.mi q.mo)

-- f is (a − b) / n, tested and read
module _ (f : ChordFactor) (a b : ℕ) (reads : pos a -ℤ pos b ≡ f.num) where
  pub is_spent : 10 * a < f.den + 10 * b → spent f ≡ true
  is_spent h = grind (arith, ints)

  not_spent : f.den + 10 * b ≤ 10 * a → spent f ≡ false
  not_spent h = grind (arith, ints)

  up_is : b ≤ a → up f.num ≡ a - b
  up_is h = let e : pos a -ℤ pos b ≡ pos (a - b) = omega (arith, ints) in ap up (sym reads ∙ e)

  pub is_left : (z : Quotient) → z.num ≡ a - b → z.den ≡ f.den → f.den + 10 * b ≤ 10 * a → a ≤ 2 * f.den + b → Left f z
  is_left z n d h k =
      let w = z.whole in
      let u = up_is (omega arith) in
      let m : max 1 f.den ≡ z.den = omega arith in
      record { unspent = not_spent h; is = rw (u, n, m) refl; least = omega arith; most = omega arith }
