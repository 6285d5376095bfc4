-- `levels::top_above` meets its contract. Assumes nothing.
use native.Mathlib.Omega.{arith}
use Rattle.std.specs.Prelude.{◌≡◌, ◌+◌, ◌-◌}
use Rattle.std.proofs.Common.{◌∙◌, ap}
use Rattle.cells.specs.Cells.{cells}
use Rattle.levels.specs.LevelLaws.{tops_none, tops_more, tops_done}
use Rattle.levels.proofs.top_above.Goals as goal

pub loop-y-init : goal.loop-y-init
loop-y-init c = tops_none _ _

pub loop-y-preserved : goal.loop-y-preserved
loop-y-preserved c =
    let l = c.loop-y in
    let q = c.max-top.ensures in
    let here : l.y - 1 + 1 ≡ l.y = omega arith in
    tops_more _ _ l.y l.top c.cell.result _ l.invariant (omega arith) (c.cell.ensures ∙ ap (cells c.args.s) here) (omega (arith, q), omega (arith, q))

pub returns : goal.returns
returns c = tops_done _ _ _ _ _ c.loop-y.invariant c.loop-y-test.false
