-- `rowjudge::heap_on` meets its contract. Assumes nothing.
use mathlib.Core.Path.{sym}
use native.Mathlib.Omega.{arith}
use Rattle.rowjudge.specs.RowLaws.{row_small, row_on, row_word, set_small}
use Rattle.rowjudge.proofs.heap_on.Goals as goal

pub slice_bounds-packed-end : goal.slice_bounds-packed-end
slice_bounds-packed-end c = sym c.requires.4

pub packed-requires : goal.packed-requires
packed-requires c = (omega (arith, c.requires.1), omega (arith, c.requires.1, c.requires.4))

pub spread-requires : goal.spread-requires
spread-requires c = let a = c.args in set_small a.n a.m c.requires.1 c.requires.2

pub returns : goal.returns
returns c =
    let a = c.args in
    let z = c.requires in
    (row_on a.arrays.now a.i a.n a.m z.1 z.3 z.2 _ _ (row_small a.arrays.now a.i a.n a.m z.1 z.3 z.2) c.packed.ensures c.spread.ensures, row_word a.arrays.now a.i a.n a.m z.1 z.3 z.2 _ _ c.packed.ensures)
