-- `facts::kept` meets its contract. Assumes nothing.
use Rattle.facts.specs.KnownLaws.{kept_nothing}
use Rattle.facts.proofs.kept.Goals as goal

pub returns-else-c-eq1 : goal.returns-else-c-eq1
returns-else-c-eq1 c = kept_nothing _ _ c.if-c-eq1.false
