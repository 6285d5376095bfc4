-- What the loop keeps.
use Rattle.logic.specs.Checks.{upto, Passes}
use Rattle.logic.specs.Model.{byte_checks}
use Rattle.ranges.proofs.first_out.Given as goal

abbrev pub invariant-loop-i : goal.invariant-loop-i
invariant-loop-i l = Passes (upto (byte_checks l.v l.n l.model) l.i)
