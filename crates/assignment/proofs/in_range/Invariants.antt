-- What the loop keeps.
use Rattle.logic.specs.Checks.{upto, Passes}
use Rattle.rows.specs.Assigned.{value_checks}
use Rattle.assignment.proofs.in_range.Given as goal

abbrev pub invariant-loop-i : goal.invariant-loop-i
invariant-loop-i l = Passes (upto (value_checks l.v l.n l.arrays l.q) l.i)
