use Rattle.std.proofs.Common.{◌≡◌, ℕ, ◌+◌, ◌*◌, ◌^◌, ◌<◌, ◌≤◌}
use Rattle.powers.specs.Fractions.{Fraction}
use Rattle.powers.specs.Digits.{Reached}
use Rattle.powers.proofs.raise.power_below.Given as goal

-- the digits taken make k, and what is left of the exponent is rest / 2^j
abbrev pub invariant-loop-j : goal.invariant-loop-j
invariant-loop-j l =
    (l.rest < l.exponent.den)
    × ((k : ℕ) × ((q : Fraction) → q.den ≤ q.num → q.num ≤ 64 * q.den → Reached l.initial.at q 0 0 → Reached l.at q k l.j) × (l.exponent.num * 2 ^ l.j ≡ k * l.exponent.den + l.rest))
