-- What the loop keeps.
use Prim.Native.Nat.{◌-◌}
use Rattle.cells.specs.Loops.{Walk}
use Rattle.cells.proofs.is_list.Given as goal

abbrev pub invariant-loop : goal.invariant-loop
invariant-loop l = Walk l.n l.a l.b l.w (l.n - l.counter) l.x l.g
