-- What the loop keeps.
use Rattle.cells.specs.Loops.{Noting}
use Rattle.cells.proofs.values.Given as goal

abbrev pub invariant-loop-l : goal.invariant-loop-l
invariant-loop-l l = Noting l.w l.l l.v
