-- A model's bytes packed into numbers. Assumes nothing: these are definitions.
use Rattle.std.specs.Prelude.{Bool, true, false, List, ℕ, ◌+◌, ◌-◌, ◌≤◌, get_or}
use Rattle.logic.specs.Digits.{num_of}
use Rattle.logic.specs.Model.{digit_of}
use Rattle.cells.specs.Cells.{cells}

-- what is packed of a byte: a cell's digit, or a variable's location as it is
abbrev pub item_of : Bool → ℕ → ℕ
item_of true x = digit_of x
item_of false x = x

-- the items of the bytes from a place on
abbrev pub items : Bool → List ℕ → ℕ → ℕ → ℕ
items cell m from i = item_of cell (get_or m (from + i) 0)

-- the items i to count - 1, the lowest first
abbrev pub packed_from : Bool → List ℕ → ℕ → ℕ → ℕ → ℕ
packed_from cell m from count i = num_of 256 (count - i) (λ j. items cell m from (i + j))

-- each of the locations or digits that w packs is at most k
abbrev pub AtMost : ℕ → ℕ → Type 0
AtMost w k = (ℓ : ℕ) → cells w ℓ ≤ k
