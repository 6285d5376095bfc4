-- `levels::exchanged` meets its contract. Assumes nothing.
use Rattle.levels.specs.SwapLaws.{exchanged_first, exchanged_second, exchanged_other}
use Rattle.levels.proofs.exchanged.Goals as goal

pub returns-then-l-a : goal.returns-then-l-a
returns-then-l-a c = exchanged_first _ _ c.if-l-a.true

pub returns-then-l-a-2 : goal.returns-then-l-a-2
returns-then-l-a-2 c = exchanged_second _ _ c.if-l-a-2.true

pub returns-else-l-a-2 : goal.returns-else-l-a-2
returns-else-l-a-2 c = exchanged_other _ _ c.if-l-a.false c.if-l-a-2.false
