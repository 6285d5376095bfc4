-- What the loops keep, and what falls.
use Rattle.levels.specs.Levels.{Tops}
use Rattle.levels.proofs.top_above.Given as goal

abbrev pub invariant-loop-y : goal.invariant-loop-y
invariant-loop-y l = Tops l.s l.v l.y l.top
