-- `cells::is_points` meets its contract. Assumes nothing.
use borrow.Author.Tests.{eq-eqb}
use native.Mathlib.Numerals.{add-one}
use native.Mathlib.Omega.{arith}
use Rattle.cells.specs.Heaps.{is_no_cell, is_one_cell}
use Rattle.cells.proofs.is_points.Goals as goal

pub returns-then-a-ne0 : goal.returns-then-a-ne0
returns-then-a-ne0 c = is_one_cell _ _ _ _ (omega arith) (omega arith) (rw add-one at c.placed.ensures)

pub returns-else-a-ne0 : goal.returns-else-a-ne0
returns-else-a-ne0 c = rw (eq-eqb _ _ c.if-a-ne0.false) (is_no_cell _ _ _ c.if-a-ne0.false)
