-- `leaves::told` meets its contract. Assumes nothing.
use Rattle.leaves.proofs.told.Goals as goal

pub returns-in-Ok-false : goal.returns-in-Ok-false
returns-in-Ok-false c = rw (c.in-Ok-false.is, c.in-Ok-false.field-0-test) c.answer_of-in-Ok-false.ensures
