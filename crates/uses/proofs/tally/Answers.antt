-- `uses::tally` meets its contract. Assumes nothing.
use Rattle.uses.specs.CountLaws.{one_more}
use Rattle.uses.proofs.tally.Goals as goal

pub returns : goal.returns
returns c = let a = c.args in one_more a.t.now a.x c.from.result c.from.ensures c.requires.0
