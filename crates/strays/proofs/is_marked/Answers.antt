-- `strays::is_marked` meets its contract. Assumes nothing.
use Rattle.strays.specs.MarkLaws.{is_marked}
use Rattle.strays.proofs.is_marked.Goals as goal

pub returns : goal.returns
returns c = is_marked c.args.m c.args.x
