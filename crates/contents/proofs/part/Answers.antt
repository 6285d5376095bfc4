-- `contents::part` meets its contract. Assumes nothing.
use native.Mathlib.Omega.{arith}
use Rattle.logic.proofs.BookLaws.{stretch_short, stretch_is}
use Rattle.contents.proofs.part.Goals as goal

pub end_of-end-requires : goal.end_of-end-requires
end_of-end-requires c = omega (arith, c.row_of-at.ensures, stretch_short c.args.book.now c.args.entry c.requires)

pub returns : goal.returns
returns c =
    let a = c.args in
    let q = c.row_of-at in
    stretch_is a.book.now a.entry q.result.start q.result.length c.end_of-end.result q.ensures.0 q.ensures.1 c.end_of-end.ensures
