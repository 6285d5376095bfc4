-- What the loop keeps: no bound so far is over the most.
use Rattle.std.specs.Prelude.{ℕ, ◌<◌, ◌≤◌, get_or}
use Rattle.logic.specs.Book.{most}
use Rattle.book.proofs.bodies.Given as goal

abbrev pub invariant-loop-bound : goal.invariant-loop-bound
invariant-loop-bound l = (k : ℕ) → k < l.bound-index → get_or l.b k 0 ≤ most
