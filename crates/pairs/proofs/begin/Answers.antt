-- `pairs::begin` meets its contract. Assumes nothing.
use Rattle.pairs.specs.PairLaws.{place_there, begins_there}
use Rattle.pairs.proofs.begin.Goals as goal

pub bounds-t-a : goal.bounds-t-a
bounds-t-a c = let p = c.requires in place_there p.0 _ p.1 _ p.2

pub returns : goal.returns
returns c = let p = c.requires in rw c.from.ensures (begins_there p.0 _ p.1 _ p.2)
