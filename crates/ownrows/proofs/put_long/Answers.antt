-- `ownrows::put_long` meets its contract. Assumes nothing.
use Rattle.ownrows.specs.OwnRowLaws.{long_rows}
use Rattle.ownrows.proofs.put_long.Goals as goal

pub returns-clause-puts : goal.returns-clause-puts
returns-clause-puts c = long_rows _ c.requires.0 c.long.ensures c.put_also.ensures.puts
