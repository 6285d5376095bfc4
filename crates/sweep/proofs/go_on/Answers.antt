-- `sweep::go_on` meets its contract. Assumes nothing.
use Rattle.sweep.specs.StartLaws.{next_passes}
use Rattle.sweep.proofs.go_on.Goals as goal

pub returns-in-None : goal.returns-in-None
returns-in-None c = rw c.in-None.is (next_passes _ _ c.next.ensures)
