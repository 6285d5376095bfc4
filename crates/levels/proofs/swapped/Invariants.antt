-- What the loops keep, and what falls.
use Rattle.levels.specs.SwapLaws.{Swapping}
use Rattle.levels.proofs.swapped.Given as goal

abbrev pub invariant-loop-i : goal.invariant-loop-i
invariant-loop-i l = Swapping l.a l.w l.i l.r
