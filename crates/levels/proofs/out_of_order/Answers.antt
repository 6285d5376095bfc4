-- `levels::out_of_order` meets its contract. Assumes nothing.
use mathlib.Core.Path.{refl}
use Rattle.levels.specs.LevelLaws.{order_broken}
use Rattle.levels.proofs.out_of_order.Goals as goal

pub returns-then-d-ne0 : goal.returns-then-d-ne0
returns-then-d-ne0 c = order_broken _ _ _ _ _ _ c.cell-d.ensures c.if-d-ne0.true c.top_above.ensures refl
