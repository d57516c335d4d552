use Rattle.std.proofs.Common.{◌≡◌, ℕ, ◌+◌, ◌*◌, arith, lit≤}
use Rattle.powers.specs.Fractions.{number, ◌+ᶠ◌, ◌*ᶠ◌}
use Rattle.powers.specs.Enclosures.{milli}
use Rattle.powers.proofs.Laws.{weaken, at_most_near}
use Rattle.editions.specs.Figures.{beta, gamma}
use Rattle.editions.proofs.api_factors.k_axial.Goals as goal

slope_is : (D T n : ℕ) → n ≡ 16 * T + 6 * D → (16 * (10 * T) + (12 * (5 * D)) * 1) * T ≡ n * (1 * (10 * T))
slope_is D T n e = rw e (omega arith)

pub returns : goal.returns
returns c =
    let r = c.args.r.now in
    let slope = at_most_near (number 16 1 +ᶠ number 12 10 *ᶠ gamma r) (number 40 1)
    (λ h. c.exact-slope.ensures.near (number 16 1 +ᶠ number 12 10 *ᶠ gamma r) (milli 28000) (milli 40000) (slope_is r.diameter r.wall _ (omega arith)) (omega arith) (omega arith) tt tt)
    (λ h. c.exact-slope.ensures.near (number 40 1) (milli 28000) (milli 40000) (omega arith) (lit≤ tt) (lit≤ tt) tt tt) in
    let power = c.six_fifths-power.ensures.near (beta r) c.beta.ensures.is c.beta.ensures.range in
    let part = c.mul-part.ensures.near slope power (tt, tt, tt, tt) in
    weaken (c.mul.ensures.near part c.gap_factor-q.ensures (tt, tt, tt, tt)) (tt, tt, tt)
