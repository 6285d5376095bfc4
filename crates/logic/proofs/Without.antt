-- Laws of a heap without a location. Assumes nothing.
use Rattle.std.specs.Prelude.{◌≡◌, refl, ◌⊎◌, ℕ}
use Rattle.std.proofs.Common.{◌∙◌, ap, inl, inr, eq-eqb, ne_eqb}
use Rattle.std.proofs.Math.Decide.{ℕ_discrete}
use Rattle.logic.specs.Heap.{Map, Heap, Allocated}
use Rattle.logic.specs.Tests.{without}
use Rattle.logic.proofs.Agree.{heap_sub}

-- h without a, at a and elsewhere
pub without_here : (a : ℕ) (h : Map) → without a h a ≡ 0
unfolding without
without_here a h = rw (eq-eqb a a refl)

pub without_there : (a : ℕ) (h : Map) (ℓ : ℕ) → ¬ (ℓ ≡ a) → without a h ℓ ≡ h ℓ
unfolding without
without_there a h ℓ e = rw (ne_eqb ℓ a e)

pub without_some : (a : ℕ) (h : Map) (ℓ : ℕ) → Allocated (without a h) ℓ → ¬ (ℓ ≡ a)
without_some a h ℓ f e = f (ap (without a h) e ∙ without_here a h)

pub without_heap : (n a : ℕ) (h : Map) → Heap n h → Heap n (without a h)
without_heap n a h k = heap_sub n (without a h) h (λ ℓ. go ℓ (ℕ_discrete ℓ a)) k
  where
    go : (ℓ : ℕ) → Dec (ℓ ≡ a) → (without a h ℓ ≡ h ℓ) ⊎ (without a h ℓ ≡ 0)
    go ℓ (yes e) = inr (ap (without a h) e ∙ without_here a h)
    go ℓ (no e) = inl (without_there a h ℓ e)
