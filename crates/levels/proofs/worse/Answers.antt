-- `levels::worse` meets its contract. Assumes nothing.
use native.Mathlib.Omega.{arith}
use Rattle.levels.specs.WorseLaws.{worse_by}
use Rattle.levels.proofs.worse.Goals as goal

pub returns-then-r-lt-MOST : goal.returns-then-r-lt-MOST
returns-then-r-lt-MOST c = worse_by _ _ _ _ _ _ (omega arith) (omega arith) c.swapped.ensures c.known_from-r.ensures c.if-r-lt-MOST.true c.lower_from.ensures
