use Rattle.std.proofs.Common.{arith}
use Rattle.powers.specs.Fractions.{number, ◌+ᶠ◌, ◌*ᶠ◌}
use Rattle.powers.specs.Enclosures.{milli}
use Rattle.powers.proofs.Laws.{weaken, bound_is, bound_is_above}
use Rattle.editions.specs.Figures.{beta}
use Rattle.editions.specs.Factors.{q_beta}
use Rattle.editions.proofs.iso_factors.y_compression_value.Goals as goal

pub returns : goal.returns
returns c =
    let r = c.args.r.now in
    let q = c.beta_factor.ensures in
    let lo = bound_is 59 100 (q_beta r) c.beta_factor.result q.is q.least in
    let hi = bound_is_above 100 301 (q_beta r) c.beta_factor.result q.is q.most in
    let slope = c.exact-slope.ensures.near (number 19 10 +ᶠ number 19 1 *ᶠ beta r) (milli 5700) (milli 20901) (omega arith) (omega arith) (omega arith) tt tt in
    let root = c.square_root-root.ensures.near (q_beta r) (milli 768) (milli 1735) q.is (omega arith) (omega arith) tt (omega (arith, q.small)) in
    weaken (c.mul.ensures.near slope root (tt, tt, tt, tt)) (tt, tt, tt)
