-- `atomfacts::path_cap` meets its contract. Assumes nothing.
use Rattle.atomfacts.specs.AtomLaws.{cap_is}
use Rattle.atomfacts.proofs.path_cap.Goals as goal

pub returns : goal.returns
returns c = cap_is _ _ _ _ _ c.from.ensures c.from-2.ensures
