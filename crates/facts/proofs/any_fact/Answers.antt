-- `facts::any_fact` meets its contract. Assumes nothing.
use mathlib.Core.Path.{refl}
use Rattle.facts.specs.KnownLaws.{any_as}
use Rattle.facts.proofs.any_fact.Goals as goal

pub returns : goal.returns
returns c = any_as _ _ _ c.digit_bit.ensures refl refl refl
