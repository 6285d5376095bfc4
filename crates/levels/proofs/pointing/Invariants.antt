-- What the loops keep, and what falls.
use Rattle.levels.specs.LevelLaws.{Pointing}
use Rattle.levels.proofs.pointing.Given as goal

abbrev pub invariant-loop-i : goal.invariant-loop-i
invariant-loop-i l = Pointing l.w l.j l.n l.l l.i l.r
