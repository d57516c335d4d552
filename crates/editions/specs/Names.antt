-- The editions by name.
--
--     Named bytes n    n is the number of the edition that the text names: 1 for iso2007, 2 for api, 0 for any other
--
-- Assumes nothing.
use Rattle.std.specs.Prelude.{◌≡◌, ℕ, List, codes, ◌≢◌}

pub record Named (bytes : List ℕ) (n : ℕ) : Type 0 where
  pub iso : bytes ≡ codes "iso2007" → n ≡ 1
  pub api : bytes ≡ codes "api" → n ≡ 2
  pub other : (bytes ≢ codes "iso2007") → (bytes ≢ codes "api") → n ≡ 0
