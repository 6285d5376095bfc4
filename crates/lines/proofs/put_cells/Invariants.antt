-- What the loop keeps.
use lib.ListN.{take}
use Rattle.put.specs.Pens.{Writes}
use Rattle.lines.specs.Printed.{listed, printed_value}
use Rattle.lines.proofs.put_cells.Given as goal

abbrev pub invariant-loop-x : goal.invariant-loop-x
invariant-loop-x l = Writes l.initial.pen (listed printed_value (take l.x-index l.cells)) l.pen
