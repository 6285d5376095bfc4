-- `rootfacts::may_stand` meets its contract. Assumes nothing.
use Rattle.rootfacts.specs.RootLaws.{bit_is}
use Rattle.rootfacts.proofs.may_stand.Goals as goal

pub returns : goal.returns
returns c = bit_is _ _
