-- What the loop keeps.
use Rattle.cells.specs.Loops.{NoSource}
use Rattle.cells.proofs.source_below.Given as goal

abbrev pub invariant-loop-l : goal.invariant-loop-l
invariant-loop-l l = NoSource l.w l.met l.top l.l
