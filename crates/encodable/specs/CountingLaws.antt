-- How many rows, arrays and sets an accepted table's formula has at the most. Assumes nothing.
use Rattle.std.specs.Prelude.{List, ℕ, ◌+◌, ◌≤◌}
use Rattle.std.proofs.Common.{zero-le}
use Rattle.logic.specs.declared.Profile.{Profile}
use Rattle.logic.specs.Table.{tree}
use Rattle.logic.specs.Book.{most, nodes, root, Known}
use Rattle.logic.proofs.KnownLaws.{last_node}
use Rattle.rows.specs.Table.{rows_in, arrays, sets}
use Rattle.rows.specs.Bounds.{most_rows, most_arrays, most_sets}
use Rattle.rows.proofs.BoundsLaws as trees

module _ (v : ℕ) (f : List ℕ) (w : Known v f) where
  -- with LONG and its AND
  pub rows_most : (π : Profile) (n : ℕ) → n ≤ most → rows_in π n (tree f (root f)) + 2 ≤ most_rows
  rows_most π n low = trees.rows_few v n f (nodes f) w.sound w.tree (root f) (last_node v f w) w.few low π

  -- whatever the number of locations is
  pub arrays_most : arrays (tree f (root f)) ≤ most_arrays
  arrays_most = trees.arrays_few v 0 f (nodes f) w.sound w.tree (root f) (last_node v f w) w.few zero-le

  pub sets_most : sets (tree f (root f)) ≤ most_sets
  sets_most = trees.sets_few v 0 f (nodes f) w.sound w.tree (root f) (last_node v f w) w.few zero-le
