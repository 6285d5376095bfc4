-- `cells::unnamed` meets its contract. Assumes nothing.
use native.Mathlib.Omega.{arith}
use Rattle.cells.specs.Unnamed.{naming_none, naming_more, naming_all}
use Rattle.cells.proofs.unnamed.Goals as goal

pub loop-i-init : goal.loop-i-init
loop-i-init c = naming_none _ _

pub loop-i-preserved : goal.loop-i-preserved
loop-i-preserved c = naming_more _ _ _ _ _ _ c.cell.ensures c.bit_up_to-named.ensures.0 c.bit_up_to-named.ensures.1 c.loop-i.invariant

pub returns : goal.returns
returns c = naming_all _ _ _ _ _ _ c.requires.1 (omega arith) c.bit.ensures c.loop-i.invariant
