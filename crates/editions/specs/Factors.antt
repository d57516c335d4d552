-- Rows of the tables that both editions share, and what is promised of every factor.
--
--     q_beta r                     Qβ = 0.3 / (β (1 − 0.833 β)) for β > 0.6, else 1
--     overlapped r                 the gap factor of an overlap, 0.13 + 0.65 φ √γ
--     factor_of_y_tension r        30 β
--     factor_of_x_tension r        23 β for β ≤ 0.9, else 20.7 + (β − 0.9)(17 γ − 220)
--     factor_of_x_compression r    (2.8 + (12 + 0.1 γ) β) Qβ
--     Factor z φ                   z encloses the factor φ, lies between 1.34 and 990, and is less than a part in a million wide
--
-- That these rows are those of the printed standards is not proved: docs/RULES.md has them to compare. Assumes nothing.
use Rattle.std.specs.Prelude.{◌<◌, cond}
use Rattle.std.proofs.Common.{mul-pos, arith}
use Rattle.powers.specs.declared.ends.Ends.{Ends}
use Rattle.powers.specs.Fractions.{Fraction, number, positive_of, ◌+ᶠ◌, ◌−ᶠ◌, ◌*ᶠ◌, ◌÷◌}
use Rattle.powers.specs.Formulas.{Formula, constant, power, ◌⊕◌, ◌⊗◌}
use Rattle.powers.specs.Enclosures.{Near, milli}
use Rattle.records.specs.declared.record.BraceRecord.{BraceRecord}
use Rattle.editions.specs.Figures.{beta, gamma, phi, diameter_positive}
use Rattle.editions.specs.Rows.{above_six_tenths, above_nine_tenths}

pub q_beta_positive : (r : BraceRecord) → 0 < (beta r *ᶠ (number 1 1 −ᶠ number 833 1000 *ᶠ beta r)).num
q_beta_positive r = let k = r.slim in let p = diameter_positive r in mul-pos (omega arith) (omega arith)

abbrev pub q_beta : BraceRecord → Fraction
q_beta r =
    cond (above_six_tenths r)
    (number 3 10 ÷ positive_of (beta r *ᶠ (number 1 1 −ᶠ number 833 1000 *ᶠ beta r)) (q_beta_positive r))
    (number 1 1)

abbrev pub overlapped : BraceRecord → Formula
overlapped r = constant (number 13 100) ⊕ constant (number 65 100 *ᶠ phi r) ⊗ power (gamma r) (number 1 2)

abbrev pub factor_of_y_tension : BraceRecord → Formula
factor_of_y_tension r = constant (number 30 1 *ᶠ beta r)

-- 17 γ − 220 is below 0 for the thickest chords, so the product is written as a difference of two.
abbrev pub factor_of_x_tension : BraceRecord → Formula
factor_of_x_tension r =
    let over = beta r −ᶠ number 9 10 in
    constant (cond (above_nine_tenths r) (number 207 10 +ᶠ over *ᶠ (number 17 1 *ᶠ gamma r) −ᶠ over *ᶠ number 220 1) (number 23 1 *ᶠ beta r))

abbrev pub factor_of_x_compression : BraceRecord → Formula
factor_of_x_compression r = (constant (number 28 10) ⊕ constant (number 12 1 +ᶠ number 1 10 *ᶠ gamma r) ⊗ constant (beta r)) ⊗ constant (q_beta r)

abbrev pub Factor : Ends → Formula → Type 0
Factor z φ = Near z φ (milli 1340) (milli 990000) 900000
