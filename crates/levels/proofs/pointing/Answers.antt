-- `levels::pointing` meets its contract. Assumes nothing.
use Rattle.levels.specs.LevelLaws.{pointing_none, pointing_more}
use Rattle.levels.proofs.pointing.Goals as goal

pub loop-i-init : goal.loop-i-init
loop-i-init c = pointing_none _ _ _ _ c.requires.0

pub loop-i-preserved : goal.loop-i-preserved
loop-i-preserved c = pointing_more _ _ _ _ _ _ _ _ c.loop-i.invariant c.loop-i-test.true c.cell.ensures c.hits-r.ensures
