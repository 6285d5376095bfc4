-- `rowjudge::Judge::is_same` meets its contract. Assumes nothing.
use Rattle.rowjudge.specs.RowLaws.{is_same_heap}
use Rattle.rowjudge.proofs.Judge.is_same.Goals as goal

pub heap_at-requires : goal.heap_at-requires
heap_at-requires c = (c.requires.0, c.requires.1, c.requires.3)

pub heap_at-requires-2 : goal.heap_at-requires-2
heap_at-requires-2 c = (c.requires.0, c.requires.2, c.requires.3)

pub returns : goal.returns
returns c = is_same_heap _ _ _ _ _ c.heap_at.ensures.1 c.heap_at-2.ensures.1 c.heap_at.ensures.0 c.heap_at-2.ensures.0
