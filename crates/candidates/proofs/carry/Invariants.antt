-- What the loops keep, and what falls.

use Rattle.candidates.specs.StepLaws.{Turned}
use Rattle.candidates.proofs.carry.Given as goal

abbrev pub invariant-loop-i : goal.invariant-loop-i
invariant-loop-i l = Turned l.b l.k l.j l.w l.g l.i
