-- `cells::touched` meets its contract. Assumes nothing.
use Rattle.cells.specs.Tables.{touched_none, touched_law}
use Rattle.cells.proofs.touched.Goals as goal

pub returns-then-d-eq0 : goal.returns-then-d-eq0
returns-then-d-eq0 c = touched_none _ _ _ c.if-d-eq0.true

pub returns : goal.returns
returns c = rw (c.bit.ensures, c.bit-2.ensures) (touched_law _ _ _ c.requires.0 c.if-d-eq0.false)
