-- `levels::new_digit` meets its contract. Assumes nothing.
use native.Mathlib.Omega.{arith}
use Rattle.levels.specs.SwapLaws.{digit_some}
use Rattle.levels.proofs.new_digit.Goals as goal

pub overflow_add-result : goal.overflow_add-result
overflow_add-result c = omega (arith, (digit_some _ _ _ c.requires.0 c.requires.1 c.if-d-eq0.false c.exchanged.ensures).1)

pub returns-else-d-eq0 : goal.returns-else-d-eq0
returns-else-d-eq0 c = digit_some _ _ _ c.requires.0 c.requires.1 c.if-d-eq0.false c.exchanged.ensures
