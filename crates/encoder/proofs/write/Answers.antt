-- `encoder::write` meets its contract. Assumes nothing.
use native.Mathlib.Omega.{arith}
use Rattle.encoder.specs.EncodeLaws.{bytes_low, room_behind, book_written}
use Rattle.encoder.proofs.write.Goals as goal

pub overflow_mul-rows : goal.overflow_mul-rows
overflow_mul-rows c = let a = c.args in omega (arith, bytes_low a.source.now.profile a.source.now.formula.now a.source.now.n a.rows a.out.now c.requires)

pub put_table-requires : goal.put_table-requires
put_table-requires c =
    let a = c.args in
    let z = c.requires in
    (z.known, room_behind a.source.now.profile a.source.now.formula.now a.source.now.n a.rows a.out.now z _ (omega arith))

pub returns : goal.returns
returns c =
    let a = c.args in
    book_written a.source.now.profile a.source.now.formula.now a.source.now.n a.rows a.out.now c.requires a.v a.p _ _ c.put_head.ensures c.put_table.ensures
