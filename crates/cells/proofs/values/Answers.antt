-- `cells::values` meets its contract. Assumes nothing.
use native.Mathlib.Omega.{arith}
use Rattle.cells.specs.Sources.{noting_none, noting_more, noting_all}
use Rattle.cells.proofs.values.Goals as goal

pub loop-l-init : goal.loop-l-init
loop-l-init c = noting_none _

pub loop-l-preserved : goal.loop-l-preserved
loop-l-preserved c = noting_more _ _ _ _ _ c.requires c.cell.ensures c.bit-v.ensures c.loop-l.invariant

pub returns : goal.returns
returns c = noting_all _ _ _ c.requires (omega arith) c.loop-l.invariant
