-- `levels::swapped` meets its contract. Assumes nothing.
use Prim.Native.Nat.{◌+◌}
use native.Mathlib.Omega.{arith}
use Rattle.cells.specs.Packing.{cells_lt}
use Rattle.levels.specs.SwapLaws.{swapping_none, swapping_more, swapping_done, exchanged_low}
use Rattle.levels.proofs.swapped.Goals as goal

pub loop-i-init : goal.loop-i-init
loop-i-init c = swapping_none _ _ c.requires.0

pub cell-requires : goal.cell-requires
cell-requires c = omega (arith, c.exchanged.ensures, exchanged_low c.args.a (c.loop-i.i + 1) 8 c.requires.1 (omega arith))

pub new_digit-d-requires : goal.new_digit-d-requires
new_digit-d-requires c = (c.requires.1, omega (arith, c.cell.ensures, cells_lt c.args.w c.exchanged.result))

pub loop-i-preserved : goal.loop-i-preserved
loop-i-preserved c = swapping_more _ _ _ _ _ _ _ _ c.loop-i.invariant c.loop-i-test.true c.exchanged.ensures c.cell.ensures c.new_digit-d.ensures.0 c.placed-r.ensures

pub returns : goal.returns
returns c = swapping_done _ _ _ _ c.requires.1 (omega arith) c.loop-i.invariant c.loop-i-test.false
