-- What an assignment is judged from. Assumes nothing: these are definitions.
use Rattle.std.specs.Prelude.{◌≡◌, List, ℕ, ◌≤◌}
use Rattle.logic.specs.Checks.{Passes}
use Rattle.logic.specs.Table.{tree}
use Rattle.logic.specs.Book.{most, root, Known}
use Rattle.rows.specs.Table as rows
use Rattle.rows.specs.Assigned.{assignment_checks}

-- what `satisfies` is given: an assignment in range, for a formula with so many arrays and sets
pub record Judging (q f : List ℕ) (v n a b : ℕ) : Type 0 where
  pub table : Known v f
  pub few_vars : v ≤ most
  pub few_locs : n ≤ most
  pub arrays : a ≡ rows.arrays (tree f (root f))
  pub sets : b ≡ rows.sets (tree f (root f))
  pub passes : Passes (assignment_checks v n a b q)
