-- What proofs/Order speaks of. Assumes nothing: these are definitions.
use Rattle.std.specs.Prelude.{◌≡◌, ℕ, ◌<◌}

-- of k digits, the highest that differs is lower in d than in e
pub record Lower (k : ℕ) (d e : ℕ → ℕ) : Type 0 where
  pub place : ℕ
  pub within : place < k
  pub less : d place < e place
  pub same : (i : ℕ) → place < i → i < k → d i ≡ e i
