-- `encoder::put_table` meets its contract. Assumes nothing.
use native.Mathlib.Omega.{arith}
use Rattle.std.proofs.Common.{sym}
use Rattle.logic.specs.Table.{tree}
use Rattle.logic.specs.Book.{root}
use Rattle.rows.proofs.TableLaws.{rows_some}
use Rattle.rowbytes.specs.WrittenLaws.{row_after, space_after, kept_then}
use Rattle.encoder.specs.EncodeLaws.{table_written}
use Rattle.encoder.proofs.put_table.Goals as goal

pub put_long-requires : goal.put_long-requires
put_long-requires c =
    let a = c.args in
    let q = c.node.ensures in
    (omega (arith, row_after q.rows, rows_some a.source.now.profile a.source.now.n (tree a.source.now.formula.now (root a.source.now.formula.now))), space_after 2 _ q.rows c.requires.1.space q.kept.long)

pub returns : goal.returns
returns c =
    let a = c.args in
    let k = kept_then c.node.ensures.kept c.put_long.ensures.kept in
    let n = sym k.same in
    let e = table_written a.source.now.profile a.source.now.n a.p (tree a.source.now.formula.now (root a.source.now.formula.now)) a.out.now c.requires.1 c.node.ensures.rows c.put_long.ensures.puts in
    grind (arith, e, n)
