-- `lines::put_cells` meets its contract. Assumes nothing.
use native.Mathlib.Omega.{arith}
use Rattle.lines.specs.Printed.{printed_value}
use Rattle.put.specs.PensLaws.{writes_none, writes_writes, writes_as, space_behind}
use Rattle.lines.specs.PrintedLaws.{listed_none, listed_more, room_listed}
use Rattle.lines.proofs.put_cells.Goals as goal

pub loop-x-init : goal.loop-x-init
loop-x-init c = writes_as (listed_none printed_value c.args.cells.now) (writes_none c.args.pen.now (omega (arith, c.requires)))

pub put_cell-requires : goal.put_cell-requires
put_cell-requires c =
    let l = c.loop-x in
    let p = c.args.pen.now in
    space_behind l.invariant _ (room_listed printed_value c.args.cells.now l.x-index c.loop-x-test.true p.at p.out.now c.requires)

pub loop-x-preserved : goal.loop-x-preserved
loop-x-preserved c =
    let l = c.loop-x in
    writes_as (listed_more printed_value c.args.cells.now l.x-index c.loop-x-test.true) (writes_writes l.invariant c.put_cell.ensures)
