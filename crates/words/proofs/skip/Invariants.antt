-- What the loop keeps.
use Rattle.words.specs.Words.{OverBlanks}
use Rattle.words.proofs.skip.Given as goal

abbrev pub invariant-loop-e : goal.invariant-loop-e
invariant-loop-e l = OverBlanks l.s l.at l.e
