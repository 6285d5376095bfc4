-- `cells::is_source` meets its contract. Assumes nothing.
use Rattle.cells.specs.Sources.{source_law}
use Rattle.cells.proofs.is_source.Goals as goal

pub returns-then-cell-eq0 : goal.returns-then-cell-eq0
returns-then-cell-eq0 c = source_law _ _ _ _ c.requires.0 c.cell.ensures c.if-cell-eq0.true
