-- What the loops keep, and what falls.
use mathlib.Core.Path.{◌≡◌}
use mathlib.Core.List.{◌++◌}
use lib.ListN.{drop}
use Rattle.logic.specs.Candidates.{bytes_to}
use Rattle.cells.specs.Cells.{cells}
use Rattle.candidates.specs.Counter.{plus}
use Rattle.candidates.proofs.put.Given as goal

abbrev pub invariant-loop-i : goal.invariant-loop-i
invariant-loop-i l = (l.out ≡ bytes_to l.i (plus l.x (cells l.w)) ++ drop l.i l.initial.out)
