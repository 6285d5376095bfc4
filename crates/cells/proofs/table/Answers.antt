-- `cells::table` meets its contract. Assumes nothing.
use native.Mathlib.Omega.{arith}
use Rattle.cells.specs.Tables.{tabled_nothing, tabling_none, tabling_more, tabling_done}
use Rattle.cells.proofs.table.Goals as goal

pub returns-then-u-eq0 : goal.returns-then-u-eq0
returns-then-u-eq0 c = tabled_nothing _ _ c.if-u-eq0.true

pub loop-l-init : goal.loop-l-init
loop-l-init c = tabling_none _ _

pub loop-l-preserved : goal.loop-l-preserved
loop-l-preserved c = tabling_more _ _ _ _ _ _ (rw c.cell.ensures at c.touched.ensures) c.placed-t.ensures c.loop-l.invariant

pub returns : goal.returns
returns c = tabling_done _ _ _ _ (omega arith) (omega arith) c.loop-l.invariant
