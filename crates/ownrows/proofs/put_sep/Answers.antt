-- `ownrows::put_sep` meets its contract. Assumes nothing.
use Rattle.ownrows.specs.OwnRowLaws.{sep_rows_put}
use Rattle.ownrows.proofs.put_sep.Goals as goal

pub returns-clause-puts : goal.returns-clause-puts
returns-clause-puts c =
    let a = c.args in
    sep_rows_put a.profile a.s a.i a.l a.a c.requires.3 c.put_and.ensures.puts c.plain.ensures c.put_also.ensures.puts c.put_apart.ensures.puts
