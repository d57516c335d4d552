use Rattle.std.proofs.Common.{ℕ, ◌+◌, ◌/◌, ◌^◌, ◌<◌, ◌≤◌, ◌≢◌, subst, lt_of_lt_of_le, arith, pow_mono}
use native.Mathlib.Nat.{pow-lt-pow_left}
use Rattle.std.proofs.lemmas.Nat.{one_shl, pow_pos}
use Rattle.powers.proofs.Fractions.{pow_mul, zero_pow}
use Rattle.powers.proofs.roots.floor_nth_root.Goals as goal

pub loop-low-init : goal.loop-low-init
loop-low-init c =
    let e = one_shl c.args.bits 128 c.requires.narrow in
    let p : 0 < 2 ^ c.args.bits = pow_pos c.args.bits in
    (omega (arith, zero_pow c.args.n c.requires.some), rw e (subst (λ (x : ℕ). c.args.limit < x) (pow_mul 2 c.args.bits c.args.n) c.requires.below), omega (arith, e, p), omega (arith, e))

pub overflow_add-middle : goal.overflow_add-middle
overflow_add-middle c =
    let n : c.args.bits ≤ 127 = omega arith in
    omega (arith, pow_mono n)

pub pow-requires : goal.pow-requires
pow-requires c =
    let m : (c.loop-low.low + c.loop-low.high) / 2 < 2 ^ c.args.bits = omega arith in
    let n : c.args.n ≢ 0 = omega arith in
    lt_of_lt_of_le (pow-lt-pow_left m n) (rw (← pow_mul 2 c.args.bits c.args.n) (pow_mono c.requires.fits))
