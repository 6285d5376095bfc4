-- `atomfacts::drop_if` meets its contract. Assumes nothing.
use Rattle.atomfacts.specs.AtomLaws.{dropped_there}
use Rattle.atomfacts.proofs.drop_if.Goals as goal

pub returns-then-yes : goal.returns-then-yes
returns-then-yes c = dropped_there _ _ _ _ c.requires.0 c.digit_bit.ensures.0 c.if-yes.true
