use Rattle.std.proofs.Common.{◌≡◌, ℕ, ◌+◌, ◌*◌, refl, arith, lit≤}
use Rattle.powers.specs.Fractions.{number, ◌+ᶠ◌, ◌*ᶠ◌}
use Rattle.powers.specs.Enclosures.{milli}
use Rattle.powers.proofs.Laws.{weaken, at_most_near}
use Rattle.editions.specs.Figures.{beta, gamma}
use Rattle.editions.proofs.api_factors.y_compression.Goals as goal

slope_is : (D T n : ℕ) → n ≡ 20 * T + 4 * D → (20 * (10 * T) + (8 * (5 * D)) * 1) * T ≡ n * (1 * (10 * T))
slope_is D T n e = rw e (omega arith)

pub returns : goal.returns
returns c =
    let r = c.args.r.now in
    let slope = at_most_near (number 20 1 +ᶠ number 8 10 *ᶠ gamma r) (number 36 1)
    (λ h. c.exact-slope.ensures.near (number 20 1 +ᶠ number 8 10 *ᶠ gamma r) (milli 28000) (milli 36000) (slope_is r.diameter r.wall _ (omega arith)) (omega arith) (omega arith) tt tt)
    (λ h. c.exact-slope.ensures.near (number 36 1) (milli 28000) (milli 36000) (omega arith) (lit≤ tt) (lit≤ tt) tt tt) in
    let power = c.eight_fifths-power.ensures.near (beta r) c.beta.ensures.is c.beta.ensures.range in
    let part = c.mul-part.ensures.near slope power (tt, tt, tt, tt) in
    let start = c.exact-start.ensures.near (number 28 10) (milli 2800) (milli 2801) refl (lit≤ tt) (lit≤ tt) tt tt in
    weaken (c.add.ensures.near start part tt) (tt, tt, tt)
