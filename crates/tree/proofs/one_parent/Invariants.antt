-- What the loop keeps.
use Rattle.logic.specs.Checks.{upto, Passes}
use Rattle.logic.specs.Book.{use_checks}
use Rattle.tree.proofs.one_parent.Given as goal

abbrev pub invariant-loop-k : goal.invariant-loop-k
invariant-loop-k l = Passes (upto (use_checks l.f) l.k)
