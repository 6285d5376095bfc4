-- What proofs/Digits speaks of. Assumes nothing: these are definitions.
use Rattle.std.specs.Prelude.{ℕ, zero, suc, ◌+◌, ◌*◌}

-- d 0 is the lowest of the k digits
unfoldable pub num_of : ℕ → ℕ → (ℕ → ℕ) → ℕ
num_of b zero d = 0
num_of b (suc k) d = num_of b k (λ i. d (suc i)) * b + d 0
