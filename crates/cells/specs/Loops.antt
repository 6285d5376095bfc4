-- What the loops of this crate keep. Nobody has to believe these: the proofs of the loops cite them. Assumes nothing: these are
-- definitions.
use Rattle.std.specs.Prelude.{◌≡◌, true, ℕ, suc, ◌+◌, ◌^◌, ◌<◌, ◌≤◌}
use Rattle.logic.specs.Heap.{Heap, Value}
use Rattle.logic.specs.Tests.{in_part, chain}
use Rattle.logic.specs.Reflect.{Is}
use Rattle.cells.specs.Cells.{most, cells, Touches, Source}

-- m has the locations, up to n, of the stack's variables below x; location j in bit j
pub record Naming (n s x m : ℕ) : Type 0 where
  pub small : m < 2 ^ suc n
  pub member : (j : ℕ) → suc j ≤ n → Is (in_part m (suc (suc j))) ((y : ℕ) × (y < x) × (cells s y ≡ suc j))

-- t has the sets of w's cells below l, and nothing from l on
unfoldable pub Tabling : ℕ → ℕ → ℕ → ℕ → Type 0
Tabling u w l t = (ℓ j : ℕ) → Is (in_part (cells t ℓ) j) ((ℓ < l) × (Touches ℓ (cells w ℓ) j × (in_part u j ≡ true)))

-- what is left of the segment from a to b over w is one from x to b over g, of at most k links
pub record Walk (n a b w k x g : ℕ) : Type 0 where
  pub same : chain n k x b (cells g) ≡ chain n n a b (cells w)
  pub low : x ≤ most
  pub heap : Heap n (cells g)

-- v has the values of w's cells below l; value j in bit j + 1
pub record Noting (w l v : ℕ) : Type 0 where
  pub small : v < 2 ^ (most + 2)
  pub member : (j : ℕ) → Is (in_part v (suc (suc j))) ((ℓ : ℕ) × (ℓ < l) × Value (cells w) ℓ j)

-- no cell may be added above l, up to the top
abbrev pub NoSource : ℕ → ℕ → ℕ → ℕ → Type 0
NoSource w met top l = (ℓ : ℕ) → l < ℓ → ℓ ≤ top → ¬ Source w met ℓ
