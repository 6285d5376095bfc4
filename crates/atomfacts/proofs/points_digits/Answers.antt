-- `atomfacts::points_digits` meets its contract. Assumes nothing.
use Rattle.atomfacts.specs.AtomLaws.{points_there, points_elsewhere}
use Rattle.atomfacts.proofs.points_digits.Goals as goal

pub returns-then-l-a : goal.returns-then-l-a
returns-then-l-a c = points_there _ _ _ _ c.if-l-a.true c.digit_bit.ensures

pub returns-else-l-a : goal.returns-else-l-a
returns-else-l-a c = points_elsewhere _ _ _ c.if-l-a.false
