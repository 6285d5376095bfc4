-- `cells::placed` meets its contract. Assumes nothing.
use Rattle.cells.specs.Packing.{placed_law}
use Rattle.cells.proofs.placed.Goals as goal

pub returns : goal.returns
returns c = placed_law _ _ c.requires.0 c.requires.1 c.requires.2
