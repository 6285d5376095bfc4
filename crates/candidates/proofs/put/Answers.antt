-- `candidates::put` meets its contract. Assumes nothing.
use Prim.Native.Nat.{◌+◌, ◌<◌}
use native.Mathlib.Omega.{arith}
use lib.ListN.{length}
use Rattle.cells.specs.Cells.{cells}
use Rattle.cells.specs.Packing.{cells_lt}
use Rattle.candidates.specs.Counter.{plus}
use Rattle.candidates.specs.Written.{bytes_none, bytes_more, plus_at}
use Rattle.candidates.proofs.put.Goals as goal

pub loop-i-init : goal.loop-i-init
loop-i-init c = bytes_none _ _

pub overflow_add-out : goal.overflow_add-out
overflow_add-out c = omega (arith, c.cell.ensures, cells_lt c.args.w (c.loop-i.i + 1))

pub loop-i-preserved : goal.loop-i-preserved
loop-i-preserved c =
    let l = c.loop-i in
    let a = c.args in
    let long : l.i < length a.out.now = omega arith in
    bytes_more l.i (plus a.x (cells a.w)) a.out.now l.out _ l.invariant long (plus_at a.x (cells a.w) (l.i + 1) _ c.cell.ensures)
