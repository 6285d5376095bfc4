-- `cells::is_empty` meets its contract. Assumes nothing.
use native.Mathlib.Omega.{arith}
use Rattle.cells.specs.Heaps.{is_nothing}
use Rattle.cells.proofs.is_empty.Goals as goal

pub returns : goal.returns
returns c = is_nothing _ (omega arith)
