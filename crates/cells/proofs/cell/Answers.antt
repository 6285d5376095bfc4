-- `cells::cell` meets its contract. Assumes nothing.
use Rattle.cells.specs.Packing.{cell_none, cell_law}
use Rattle.cells.proofs.cell.Goals as goal

pub returns-then-l-eq0 : goal.returns-then-l-eq0
returns-then-l-eq0 c = cell_none _ _ c.if-l-eq0.true

pub returns : goal.returns
returns c = cell_law _ _ c.if-l-eq0.false
