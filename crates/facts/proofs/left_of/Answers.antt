-- `facts::left_of` meets its contract. Assumes nothing.
use mathlib.Core.Path.{refl}
use Rattle.facts.specs.KnownLaws.{joined_sept}
use Rattle.facts.proofs.left_of.Goals as goal

pub returns : goal.returns
returns c = joined_sept c.args.a c.args.b _ _ _ c.kept.ensures c.none_left.ensures.1 refl c.together.ensures c.together-2.ensures
