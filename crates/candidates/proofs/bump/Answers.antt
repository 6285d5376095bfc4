-- `candidates::bump` meets its contract. Assumes nothing.
use Rattle.candidates.specs.StepLaws.{cleared_base, bumped}
use Rattle.candidates.proofs.bump.Goals as goal

pub carry-requires : goal.carry-requires
carry-requires c = (c.requires.0, c.requires.2, c.requires.3, cleared_base _ _ _ _ _ c.cleared.ensures c.requires.4)

pub returns : goal.returns
returns c = bumped _ _ _ _ _ _ c.cleared.ensures c.requires.4 c.carry.ensures
