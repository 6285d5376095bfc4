-- `cells::met` meets its contract. Assumes nothing.
use Rattle.cells.specs.Sources.{met_nothing, met_law}
use Rattle.cells.proofs.met.Goals as goal

pub returns-then-u-eq0 : goal.returns-then-u-eq0
returns-then-u-eq0 c = met_nothing _ _ c.if-u-eq0.true

pub returns : goal.returns
returns c = met_law _ _ _ _ c.requires.0 c.values.ensures c.taken.ensures
