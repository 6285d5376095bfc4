-- An assignment's arrays, unpacked. Assumes nothing: these are definitions.
use Rattle.std.specs.Prelude.{◌≡◌, List, [], ℕ, zero, suc, ◌<◌, length, get_or}
use Rattle.logic.specs.Heap.{Map}
use Rattle.logic.specs.Book.{most}
use Rattle.rows.specs.Bounds.{most_arrays}
use Rattle.rows.specs.Assigned.{array_in}

-- array i, "indexed by array number and then by location": location 1 is at 0
unfoldable pub values_of : List ℕ → Map
values_of row zero = 0
values_of row (suc j) = get_or row j 0

abbrev pub values_in : List (List ℕ) → ℕ → Map
values_in arrays i = values_of (get_or arrays i [])

-- what `unpack` gives of the assignment q, at v variables, n locations and a arrays
pub record Unpacked (v n a : ℕ) (q : List ℕ) (arrays : List (List ℕ)) : Type 0 where
  pub rows : (i : ℕ) → i < most_arrays → length (get_or arrays i []) ≡ most
  pub values : (i : ℕ) → i < a → values_in arrays i ≡ array_in v n a q i
