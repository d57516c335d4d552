-- Small laws of what the tables of formulas are made of.
use Rattle.std.proofs.Common.{◌≡◌, ℕ, ◌+◌, ◌*◌, ◌^◌, ◌≤◌, T, leb, ap, mul-le-mul_right, mul-le-mul, arith, leb→le}
use Rattle.powers.specs.Fractions.{◌≤ᶠ◌}
use Rattle.powers.specs.Enclosures.{units}

-- a fraction written the same way
pub is_same : {a b n d : ℕ} → n ≡ a → d ≡ b → a * d ≡ n * b
is_same e f = rw (e, f)

-- fewer units are less
pub units_le : (k a l : ℕ) → T (leb k a) → a ≤ l → units k ≤ᶠ units l
units_le k a l t h = let i = leb→le k a t in record { across = mul-le-mul_right (2 ^ 40) (omega arith) }

-- Qβ, with 1000 D − 833 d written in two ways
pub q_beta_is : (D d x y : ℕ) → y ≡ x → (3 * (D * (1 * (1000 * D)))) * (d * x) ≡ (300 * (D * D)) * (10 * (d * y))
q_beta_is D d x y e = rw e (omega arith)

-- 1 + 0.2 (x / 10 D)³
module _ (D x : ℕ) where
  pub cubes_is : (s : ℕ) → s ≡ x → (1 * (10 * ((1 * (10 * D)) * (1 * (10 * D)) * (1 * (10 * D)))) + (2 * (x * x * x)) * 1) * (10 * (10 * D * (10 * D) * (10 * D))) ≡ (10 * (10 * D * (10 * D) * (10 * D)) + 2 * (s * s * s)) * (1 * (10 * ((1 * (10 * D)) * (1 * (10 * D)) * (1 * (10 * D)))))
  cubes_is s e = rw e (omega arith)

  pub cubes_least : 1099511627776 * (1 * (10 * ((1 * (10 * D)) * (1 * (10 * D)) * (1 * (10 * D))))) ≤ (1 * (10 * ((1 * (10 * D)) * (1 * (10 * D)) * (1 * (10 * D)))) + (2 * (x * x * x)) * 1) * 2 ^ 40
  cubes_least = omega arith

  pub cubes_most : x ≤ 10 * D → (1 * (10 * ((1 * (10 * D)) * (1 * (10 * D)) * (1 * (10 * D)))) + (2 * (x * x * x)) * 1) * 2 ^ 40 ≤ 1319413953332 * (1 * (10 * ((1 * (10 * D)) * (1 * (10 * D)) * (1 * (10 * D)))))
  cubes_most h = omega (arith, mul-le-mul (mul-le-mul h h) h)

-- shares n and m of 2 D: 0.335 of the one and 1.1272112 of the other make 0.335 at least
pub api_mixed : (D n m : ℕ) → n + m ≡ 2 * D → 368336395304 * (((D * 2) * 2 ^ 40) * ((D * 2) * 10000000)) ≤ (((n * 1) * 368336395304) * ((D * 2) * 10000000) + ((m * 1) * 11272112) * ((D * 2) * 2 ^ 40)) * 2 ^ 40
api_mixed D n m e = omega (arith, ap (λ (k : ℕ). k * D) e)

-- the same where both are at least 0.335
pub iso_mixed : (T n m : ℕ) → n + m ≡ 2 * T → 368336395304 * (((T * 2) * 2 ^ 40) * ((T * 2) * 2 ^ 40)) ≤ (((n * 1) * 368336395304) * ((T * 2) * 2 ^ 40) + ((m * 1) * 368336395304) * ((T * 2) * 2 ^ 40)) * 2 ^ 40
iso_mixed T n m e = omega (arith, ap (λ (k : ℕ). k * T) e)
