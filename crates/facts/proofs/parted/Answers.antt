-- `facts::parted` meets its contract. Assumes nothing.
use mathlib.Core.Path.{refl}
use Rattle.facts.specs.KnownLaws.{joined_sep}
use Rattle.facts.proofs.parted.Goals as goal

pub returns : goal.returns
returns c = joined_sep c.args.a c.args.b _ _ _ c.kept.ensures c.kept-2.ensures refl c.together.ensures c.together-2.ensures
