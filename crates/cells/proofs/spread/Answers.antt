-- `cells::spread` meets its contract. Assumes nothing.
use Rattle.cells.specs.Packing.{spread_law}
use Rattle.cells.proofs.spread.Goals as goal

pub returns : goal.returns
returns c = spread_law _ c.requires
