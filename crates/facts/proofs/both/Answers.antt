-- `facts::both` meets its contract. Assumes nothing.
use mathlib.Core.Path.{refl, ◌∙◌}
use Rattle.facts.specs.KnownLaws.{min_smaller, joined_conj}
use Rattle.facts.proofs.both.Goals as goal

pub returns : goal.returns
returns c = joined_conj c.args.a c.args.b _ refl (c.min.ensures ∙ min_smaller _ _) (c.min-2.ensures ∙ min_smaller _ _)
