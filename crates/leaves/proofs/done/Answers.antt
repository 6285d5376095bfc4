-- `leaves::done` meets its contract. Assumes nothing.
use Rattle.leaves.proofs.done.Goals as goal

pub returns-in-Ok : goal.returns-in-Ok
returns-in-Ok c = rw c.in-Ok.is c.answer_of.ensures
