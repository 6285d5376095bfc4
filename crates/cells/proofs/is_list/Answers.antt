-- `cells::is_list` meets its contract. Assumes nothing.
use borrow.Author.Tests.{ne_eqb}
use native.Mathlib.Omega.{arith}
use Rattle.cells.specs.Lists.{walk_there, walk_short, walk_broken, walk_on}
use Rattle.cells.proofs.is_list.Goals as goal

pub returns-then-x-b : goal.returns-then-x-b
returns-then-x-b c = walk_there _ _ _ _ c.requires.0 c.requires.2 _ _ _ c.loop.invariant _ c.if-x-b.true c.is_empty.ensures

pub returns-then-d-eq0 : goal.returns-then-d-eq0
returns-then-d-eq0 c = walk_broken _ _ _ _ c.requires.0 c.requires.2 _ _ _ c.loop.invariant _ c.if-x-b.false c.cell-d.ensures c.if-d-eq0.true

pub loop-preserved : goal.loop-preserved
loop-preserved c = walk_on _ _ _ _ c.requires.0 c.requires.2 _ _ _ c.loop.invariant _ _ _ (omega arith) (omega arith) c.if-x-b.false c.cell-d.ensures c.if-d-eq0.false c.placed-g.ensures

pub returns-then-x-b-2 : goal.returns-then-x-b-2
returns-then-x-b-2 c = walk_there _ _ _ _ c.requires.0 c.requires.2 _ _ _ c.loop.invariant _ c.if-x-b-2.true c.is_empty-then-x-b-2.ensures

pub returns-else-x-b-2 : goal.returns-else-x-b-2
returns-else-x-b-2 c = rw (ne_eqb _ _ c.if-x-b-2.false) (walk_short _ _ _ _ c.requires.0 c.requires.2 _ _ _ c.loop.invariant (omega arith) c.if-x-b-2.false)
