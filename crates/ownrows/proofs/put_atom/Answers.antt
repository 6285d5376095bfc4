-- `ownrows::put_atom` meets its contract. Assumes nothing.
use Rattle.std.proofs.Common.{arith}
use Rattle.rowbytes.specs.WrittenLaws.{row_after, space_less, space_after}
use Rattle.ownrows.specs.OwnRowLaws.{space_pair, space_ls, same_rows, diff_rows, pts_rows, ls_rows}
use Rattle.ownrows.proofs.put_atom.Goals as goal

pub put_pair-requires : goal.put_pair-requires
put_pair-requires c = let a = c.args in space_pair a.n a.op a.x a.y a.a a.s _ _ (omega arith) (omega arith) c.requires.3

pub put_pair-requires-in-2 : goal.put_pair-requires-in-2
put_pair-requires-in-2 c = let a = c.args in space_pair a.n a.op a.x a.y a.a a.s _ _ (omega arith) (omega arith) c.requires.3

pub put_pair-requires-in-3 : goal.put_pair-requires-in-3
put_pair-requires-in-3 c = let a = c.args in space_pair a.n a.op a.x a.y a.a a.s _ _ (omega arith) (omega arith) c.requires.3

pub put_chains-requires : goal.put_chains-requires
put_chains-requires c = let a = c.args in let h = space_ls a.n a.op a.x a.y a.a a.s _ _ (omega arith) c.requires.3 in (c.requires.2, space_less _ h (omega arith))

pub put_ors-requires : goal.put_ors-requires
put_ors-requires c =
    let a = c.args in
    let h = space_ls a.n a.op a.x a.y a.a a.s _ _ (omega arith) c.requires.3 in
    let q = c.put_chains.ensures in
    (omega (arith, row_after q.puts), space_after a.n _ q.puts h q.kept.long)

pub returns-in-1-clause-rows : goal.returns-in-1-clause-rows
returns-in-1-clause-rows c = same_rows _ _ _ _ _ _ _ _ _ _ _ _ c.put_pair.ensures.puts c.in-1.is c.plain.ensures c.plain-in-1.ensures

pub returns-in-2-clause-rows : goal.returns-in-2-clause-rows
returns-in-2-clause-rows c = diff_rows _ _ _ _ _ _ _ _ _ _ _ _ c.put_pair-in-2.ensures.puts c.in-2.is c.plain-in-2.ensures c.plain-in-2-2.ensures

pub returns-in-3-clause-rows : goal.returns-in-3-clause-rows
returns-in-3-clause-rows c = pts_rows _ _ _ _ _ _ _ _ _ _ _ _ c.put_pair-in-3.ensures.puts c.in-3.is c.plain-in-3.ensures c.plain-in-3-2.ensures

pub returns-in_default-clause-rows : goal.returns-in_default-clause-rows
returns-in_default-clause-rows c =
    let a = c.args in
    ls_rows _ _ _ _ _ _ _ _ _ _ _ _ (omega arith) (space_ls a.n a.op a.x a.y a.a a.s _ _ (omega arith) c.requires.3) c.put_chains.ensures.puts c.put_ors.ensures.puts
