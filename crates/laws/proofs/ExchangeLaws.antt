-- The exchange of two locations is a renumbering. Assumes nothing.
use Rattle.std.specs.Prelude.{◌≡◌, ℕ, ◌≤◌}
use Rattle.std.proofs.Math.Path.{sym}
use Rattle.std.proofs.Common.{◌∙◌, ap, arith}
use Rattle.std.proofs.Math.Decide.{ℕ_discrete}
use borrow.Author.Tests.{eq-eqb, ne_eqb}
use Rattle.laws.specs.Renumbering.{Renumbering}
use Rattle.laws.specs.Exchange.{exchange}

module _ (a b : ℕ) where
  pub exchange_first : (ℓ : ℕ) → ℓ ≡ a → exchange a b ℓ ≡ b
  unfolding exchange
  exchange_first ℓ e = rw (eq-eqb ℓ a e)

  pub exchange_second : (ℓ : ℕ) → ℓ ≡ b → exchange a b ℓ ≡ a
  unfolding exchange
  exchange_second ℓ e = go (ℕ_discrete ℓ a)
    where
      go : Dec (ℓ ≡ a) → exchange a b ℓ ≡ a
      go (yes f) = exchange_first ℓ f ∙ sym e ∙ f
      go (no f) = rw (ne_eqb ℓ a f, eq-eqb ℓ b e)

  pub exchange_other : (ℓ : ℕ) → ¬ (ℓ ≡ a) → ¬ (ℓ ≡ b) → exchange a b ℓ ≡ ℓ
  unfolding exchange
  exchange_other ℓ e f = rw (ne_eqb ℓ a e, ne_eqb ℓ b f)

  exchange_twice : (ℓ : ℕ) → exchange a b (exchange a b ℓ) ≡ ℓ
  exchange_twice ℓ = go (ℕ_discrete ℓ a) (ℕ_discrete ℓ b)
    where
      go : Dec (ℓ ≡ a) → Dec (ℓ ≡ b) → exchange a b (exchange a b ℓ) ≡ ℓ
      go (yes e) w = exchange_second (exchange a b ℓ) (exchange_first ℓ e) ∙ sym e
      go (no e) (yes f) = exchange_first (exchange a b ℓ) (exchange_second ℓ f) ∙ sym f
      go (no e) (no f) = ap (exchange a b) (exchange_other ℓ e f) ∙ exchange_other ℓ e f

  pub exchange_low : (n : ℕ) → a ≤ n → b ≤ n → (ℓ : ℕ) → ℓ ≤ n → exchange a b ℓ ≤ n
  exchange_low n l m ℓ q = go (ℕ_discrete ℓ a) (ℕ_discrete ℓ b)
    where
      go : Dec (ℓ ≡ a) → Dec (ℓ ≡ b) → exchange a b ℓ ≤ n
      go (yes e) w = omega (arith, exchange_first ℓ e)
      go (no e) (yes f) = omega (arith, exchange_second ℓ f)
      go (no e) (no f) = omega (arith, exchange_other ℓ e f)

  module _ (n : ℕ) (la : 1 ≤ a) (ma : a ≤ n) (lb : 1 ≤ b) (mb : b ≤ n) where
    pub exchange_renumbering : Renumbering n (exchange a b) (exchange a b)
    exchange_renumbering =
        record {
          there = exchange_twice;
          back = exchange_twice;
          nil = exchange_other 0 (λ (e : 0 ≡ a). omega arith) (λ (e : 0 ≡ b). omega arith);
          low = exchange_low n ma mb;
          low_back = exchange_low n ma mb;
        }
