-- What the loop keeps.
use Prim.Native.Nat.{◌+◌}
use Rattle.cells.specs.Loops.{Naming}
use Rattle.cells.proofs.unnamed.Given as goal

abbrev pub invariant-loop-i : goal.invariant-loop-i
invariant-loop-i l = Naming l.n l.s (l.i + 1) l.named
