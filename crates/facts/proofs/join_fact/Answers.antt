-- `facts::join_fact` meets its contract. Assumes nothing.
use native.Mathlib.Omega.{arith}
use Rattle.facts.specs.OperatorLaws.{joined_5, joined_6, joined_9, joined_10}
use Rattle.facts.proofs.join_fact.Goals as goal

pub returns-in-5 : goal.returns-in-5
returns-in-5 c = joined_5 _ _ _ _ c.in-5.is c.both.ensures

pub returns-in-6 : goal.returns-in-6
returns-in-6 c = joined_6 _ _ _ _ c.in-6.is c.either.ensures

pub returns-in-9 : goal.returns-in-9
returns-in-9 c = joined_9 _ _ _ _ c.in-9.is c.parted.ensures

pub returns-in_default : goal.returns-in_default
returns-in_default c = joined_10 _ _ _ _ (omega (arith, c.requires.0, c.requires.1, c.requires.2, c.requires.3)) c.left_of.ensures
