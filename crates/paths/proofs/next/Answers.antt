-- `paths::next` meets its contract. Assumes nothing.
use Rattle.paths.specs.Along.{next_none, next_some}
use Rattle.paths.proofs.next.Goals as goal

pub returns-then-d-lt2 : goal.returns-then-d-lt2
returns-then-d-lt2 c = next_none _ _ c.if-d-lt2.true

pub returns : goal.returns
returns c = next_some _ _ c.if-d-lt2.false
