-- What the loop keeps.
use Rattle.cells.specs.Loops.{Tabling}
use Rattle.cells.proofs.table.Given as goal

abbrev pub invariant-loop-l : goal.invariant-loop-l
invariant-loop-l l = Tabling l.u l.w l.l l.t
