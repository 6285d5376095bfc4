-- What proofs/Symbols speaks of. Assumes nothing: these are definitions.
use Rattle.std.specs.Prelude.{◌≡◌, ℕ, ◌<◌}
use Rattle.rows.specs.Assignment.{Assignment}

-- two assignments have the same stack, and agree on the arrays below i and the sets below j
pub record Agree (i j : ℕ) (ν μ : Assignment) : Type 0 where
  pub stack : ν.stack ≡ μ.stack
  pub array : (k : ℕ) → k < i → ν.array k ≡ μ.array k
  pub set : (k : ℕ) → k < j → ν.set k ≡ μ.set k
