-- `ownrows::put_apart` meets its contract. Assumes nothing.
use Rattle.ownrows.specs.OwnRowLaws.{apart_rows_put, apart_none}
use Rattle.ownrows.proofs.put_apart.Goals as goal

pub returns-in-Strong-clause-puts : goal.returns-in-Strong-clause-puts
returns-in-Strong-clause-puts c =
    let a = c.args in
    apart_rows_put a.profile a.a a.i a.j c.in-Strong.is c.requires.0 c.plain.ensures c.put_also.ensures.puts

pub returns-in-Ordinary-clause-puts : goal.returns-in-Ordinary-clause-puts
returns-in-Ordinary-clause-puts c =
    let a = c.args in
    apart_none a.profile a.a a.i a.j c.in-Ordinary.is
