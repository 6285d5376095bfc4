-- `atomfacts::points_fact` meets its contract. Assumes nothing.
use mathlib.Core.Path.{refl}
use Rattle.atomfacts.specs.AtomLaws.{points_nil, points_cell}
use Rattle.atomfacts.proofs.points_fact.Goals as goal

pub returns-then-a-eq0 : goal.returns-then-a-eq0
returns-then-a-eq0 c = points_nil _ _ _ _ _ c.if-a-eq0.true (refl, refl, refl)

pub returns : goal.returns
returns c = points_cell _ _ _ _ _ c.path_cap.ensures.0 c.path_cap-2.ensures.0 c.points_digits.ensures
