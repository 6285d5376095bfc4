-- `atomfacts::list_fact` meets its contract. Assumes nothing.
use mathlib.Core.Path.{refl}
use Rattle.atomfacts.specs.AtomLaws.{list_same, list_nil, list_cells}
use Rattle.atomfacts.proofs.list_fact.Goals as goal

pub returns-then-a-b : goal.returns-then-a-b
returns-then-a-b c = list_same _ _ _ _ _ c.if-a-b.true (refl, refl, refl)

pub returns-then-a-eq0 : goal.returns-then-a-eq0
returns-then-a-eq0 c = list_nil _ _ _ _ _ c.if-a-b.false c.if-a-eq0.true (refl, refl, refl)

pub returns : goal.returns
returns c = list_cells _ _ _ _ _ c.path_cap.ensures.0 c.path_cap-2.ensures.0 c.if-a-b.false c.list_digits.ensures
