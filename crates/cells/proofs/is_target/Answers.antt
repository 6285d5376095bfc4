-- `cells::is_target` meets its contract. Assumes nothing.
use Rattle.cells.specs.Sources.{target_law}
use Rattle.cells.proofs.is_target.Goals as goal

pub returns : goal.returns
returns c = target_law _ _
