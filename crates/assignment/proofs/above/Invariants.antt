-- What the loop keeps.
use mathlib.Core.Path.{◌≡◌}
use Prim.Native.Nat.{◌≤◌}
use lib.Dec.{leb}
use Rattle.logic.specs.Table.{op_of}
use Rattle.logic.specs.Tests.{pick}
use Rattle.logic.specs.Weight.{sum}
use Rattle.assignment.proofs.above.Given as goal

abbrev pub invariant-loop-k : goal.invariant-loop-k
invariant-loop-k l = (l.r ≤ l.k) × (l.r ≡ sum l.k (λ j. pick (leb (op_of l.f j) l.o) 0 1))
