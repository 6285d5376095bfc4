-- What the loops keep, and what falls.

use Rattle.candidates.specs.UnpackLaws.{Unpacking}
use Rattle.candidates.proofs.unpacked.Given as goal

abbrev pub invariant-loop-i : goal.invariant-loop-i
invariant-loop-i l = Unpacking l.b l.k l.x l.i l.r l.left
