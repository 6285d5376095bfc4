-- `facts::either` meets its contract. Assumes nothing.
use mathlib.Core.Path.{refl, ◌∙◌}
use Rattle.facts.specs.KnownLaws.{max_larger, joined_first, joined_second, joined_disj}
use Rattle.facts.proofs.either.Goals as goal

pub returns-then-a-eq0 : goal.returns-then-a-eq0
returns-then-a-eq0 c = joined_second _ _ c.if-a-eq0.true

pub returns-then-b-eq0 : goal.returns-then-b-eq0
returns-then-b-eq0 c = joined_first _ _ c.if-b-eq0.true

pub returns : goal.returns
returns c = joined_disj c.args.a c.args.b _ refl (c.max.ensures ∙ max_larger _ _) (c.max-2.ensures ∙ max_larger _ _)
