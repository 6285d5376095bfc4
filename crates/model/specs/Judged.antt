-- What the judge has when it asks its core. Assumes nothing: these are definitions.
use Rattle.std.specs.Prelude.{List, ℕ, ◌≤◌}
use Rattle.logic.specs.Heap.{Stack, Heap}
use Rattle.logic.specs.Book.{most, Known}
use Rattle.cells.specs.Cells.{cells}

-- an accepted table of v variables, and a stack and a heap in range, packed
pub record Judged (v n : ℕ) (f : List ℕ) (s w : ℕ) : Type 0 where
  pub table : Known v f
  pub few_vars : v ≤ most
  pub few_locs : n ≤ most
  pub stack : Stack v n (cells s)
  pub heap : Heap n (cells w)
