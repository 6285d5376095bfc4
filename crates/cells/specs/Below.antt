-- That there is a number below x + 1 with a property. Assumes nothing.
use Rattle.std.specs.Prelude.{◌≡◌, ◌⊎◌, ℕ, ◌+◌, ◌<◌}
use Rattle.std.proofs.Common.{subst, inl, inr, ⊎_elim, arith}
use Rattle.std.proofs.Math.Decide.{ℕ_discrete}

module _ (P : ℕ → Type 0) (x : ℕ) where
  pub some_more : ((y : ℕ) × (y < x) × P y) ⊎ P x → (y : ℕ) × (y < x + 1) × P y
  some_more o = ⊎_elim (λ q. (q.0, omega (arith, q.1), q.2)) (λ p. (x, omega arith, p)) o

  pub some_less : (y : ℕ) × (y < x + 1) × P y → ((y : ℕ) × (y < x) × P y) ⊎ P x
  some_less q = go (ℕ_discrete q.0 x)
    where
      go : Dec (q.0 ≡ x) → ((y : ℕ) × (y < x) × P y) ⊎ P x
      go (yes e) = inr (subst P e q.2)
      go (no n) = inl (q.0, omega (arith, q.1), q.2)
