-- The place of a body is where its bytes are. Assumes nothing.
use Rattle.std.specs.Prelude.{◌≡◌, List, ℕ, take, drop}
use Rattle.std.proofs.Common.{ap₂, inl, inr, ⊎_elim}
use Rattle.logic.specs.Book.{Body, Placed}

pub placed_body : (s : List ℕ) (e start len : ℕ) → Placed s e start len → Body s e (take len (drop start s))
unfolding Placed Body
placed_body s e start len q =
    ⊎_elim (λ x. inl (x.0, bytes x.1.1 x.1.0)) (λ x. inr (x.0, bytes x.1.1 x.1.0)) q
  where
    bytes : {k i : ℕ} → len ≡ k → start ≡ i → take len (drop start s) ≡ take k (drop i s)
    bytes el es = ap₂ (λ (k i : ℕ). take k (drop i s)) el es
