-- `ownrows::put_sept` meets its contract. Assumes nothing.
use Rattle.ownrows.specs.OwnRowLaws.{sept_rows_put}
use Rattle.ownrows.proofs.put_sept.Goals as goal

pub returns-clause-puts : goal.returns-clause-puts
returns-clause-puts c =
    let a = c.args in
    sept_rows_put a.profile a.a a.b a.s a.i a.l c.requires.3 c.put_and.ensures.puts c.plain.ensures c.put_also.ensures.puts c.put_apart.ensures.puts c.plain-2.ensures c.put_also-2.ensures.puts
