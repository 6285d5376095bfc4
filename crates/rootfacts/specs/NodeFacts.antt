-- The facts of a node of a table. Assumes nothing: these are definitions.
use Rattle.std.specs.Prelude.{List, ℕ, suc, ◌<◌, ◌≤◌}
use Rattle.logic.specs.declared.Profile.{Profile}
use Rattle.logic.specs.Heap.{Stack}
use Rattle.logic.specs.Table.{Sound, tree}
use Rattle.logic.specs.Book.{most_nodes}
use Rattle.cells.specs.Cells.{most, cells}
use Rattle.facts.specs.declared.fact.Fact.{Fact}
use Rattle.facts.specs.Known.{Known}

-- the nodes of the table f up to k are as they should be, and s packs a stack over n locations for their variables
pub record Readable (f : List ℕ) (k n s : ℕ) : Type 0 where
  pub vars : ℕ
  pub inside : k < most_nodes
  pub sound : Sound vars f (suc k)
  pub few_vars : vars ≤ most
  pub few_locs : n ≤ most
  pub stack : Stack vars n (cells s)

-- r holds for node k of the table f at ℓ, in either profile and with any number of variables named
pub record KnownAt (f : List ℕ) (k n s ℓ : ℕ) (r : Fact) : Type 0 where
  pub known : (π : Profile) (v : ℕ) → Known π v n (tree f k) (cells s) ℓ r
