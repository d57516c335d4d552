use Rattle.std.proofs.Common.{refl, arith, lit≤}
use Rattle.powers.specs.Fractions.{number, ◌+ᶠ◌, ◌*ᶠ◌}
use Rattle.powers.specs.Enclosures.{milli}
use Rattle.powers.proofs.Laws.{weaken, bound_is, bound_is_above}
use Rattle.editions.specs.Figures.{beta, gamma}
use Rattle.editions.specs.Factors.{q_beta}
use Rattle.editions.proofs.factors.x_compression_factor.Goals as goal

pub returns : goal.returns
returns c =
    let r = c.args.r.now in
    let slope = c.exact-slope.ensures.near (number 12 1 +ᶠ number 1 10 *ᶠ gamma r) (milli 13000) (milli 17000) (omega arith) (omega arith) (omega arith) tt tt in
    let b = c.exact-b.ensures.near (beta r) (milli 200) (milli 1000) c.beta.ensures.is (omega arith) (omega arith) tt tt in
    let part = c.mul-part.ensures.near slope b (tt, tt, tt, tt) in
    let start = c.exact-start.ensures.near (number 28 10) (milli 2800) (milli 2801) refl (lit≤ tt) (lit≤ tt) tt tt in
    let sum = c.add-sum.ensures.near start part tt in
    let e = c.beta_factor.ensures in
    let lo = bound_is 59 100 (q_beta r) c.beta_factor.result e.is e.least in
    let hi = bound_is_above 100 301 (q_beta r) c.beta_factor.result e.is e.most in
    let q = c.exact-q.ensures.near (q_beta r) (milli 590) (milli 3011) e.is (omega arith) (omega arith) tt tt in
    weaken (c.mul.ensures.near sum q (tt, tt, tt, tt)) (tt, tt, tt)
