-- `paths::count` meets its contract. Assumes nothing.
use native.Mathlib.Omega.{arith}
use Rattle.cells.specs.Taken.{tops_fit}
use Rattle.paths.specs.Counting.{count_law}
use Rattle.paths.proofs.count.Goals as goal

pub overflow_add-result : goal.overflow_add-result
overflow_add-result c = omega (arith, tops_fit c.args.w (omega arith) c.requires)

pub returns : goal.returns
returns c = count_law _ (omega arith) c.requires
