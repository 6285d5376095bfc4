-- What is said of the variables above one, and of two locations exchanged. Assumes nothing: these are definitions.
use Rattle.std.specs.Prelude.{◌≡◌, ℕ, suc, ◌+◌, ◌-◌, ◌<◌, ◌≤◌}
use Rattle.logic.specs.Digits.{num_of}
use Rattle.cells.specs.Cells.{most, cells}
use Rattle.laws.specs.Exchange.{exchanged_heap}

-- no variable above x, up to v, has a location over r
unfoldable pub Tops : ℕ → ℕ → ℕ → ℕ → Type 0
Tops s v x r = (y : ℕ) → x < y → y ≤ v → cells s y ≤ r

-- r is the heap w with a and a + 1 exchanged
unfoldable pub Swapped : ℕ → ℕ → ℕ → Type 0
Swapped a w r = (ℓ : ℕ) → cells r ℓ ≡ exchanged_heap a (suc a) (cells w) ℓ

-- a and a + 1 exchanged give a lower heap, by the digits from r up, which come from above j: what skip-worse asks
pub record Worse (a j w : ℕ) : Type 0 where
  pub r : ℕ
  pub known : j ≤ r
  pub pair : j ≡ a → suc a ≤ r
  pub inside : r < most
  pub lower : num_of 256 (most - r) (λ x. exchanged_heap a (suc a) (cells w) (suc (r + x))) < num_of 256 (most - r) (λ x. cells w (suc (r + x)))

-- variable x + 1 has a location over 1 + those of the variables above: what skip-label asks
pub record OutOfOrder (s v x : ℕ) : Type 0 where
  pub top : ℕ
  pub tops : (y : ℕ) → suc x < y → y ≤ v → cells s y ≤ top
  pub over : suc top < cells s (suc x)
