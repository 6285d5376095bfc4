-- `blocks::both_in` meets its contract. Assumes nothing.
use Rattle.blocks.specs.OverLaws.{both_law}
use Rattle.blocks.proofs.both_in.Goals as goal

pub returns : goal.returns
returns c = both_law _ _ c.requires.0
