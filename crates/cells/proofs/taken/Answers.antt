-- `cells::taken` meets its contract. Assumes nothing.
use native.Mathlib.Omega.{arith}
use Rattle.cells.specs.Taken.{tops_fit, taken_law}
use Rattle.cells.proofs.taken.Goals as goal

pub overflow_add-tops : goal.overflow_add-tops
overflow_add-tops c = omega (arith, tops_fit c.args.w (omega arith) c.requires)

pub returns : goal.returns
returns c = taken_law _ (omega arith) c.requires
