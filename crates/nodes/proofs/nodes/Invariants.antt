-- What the loop keeps.
use Rattle.logic.specs.Checks.{upto, Passes}
use Rattle.logic.specs.Book.{node_checks}
use Rattle.nodes.proofs.nodes.Given as goal

abbrev pub invariant-loop-k : goal.invariant-loop-k
invariant-loop-k l = Passes (upto (node_checks l.v l.f) l.k)
