-- What the loop keeps.
use Rattle.std.specs.Prelude.{◌≡◌, ℕ, length, get_or}
use Rattle.logic.specs.Table.{uses}
use Rattle.logic.specs.Book.{most_nodes}
use Rattle.uses.proofs.count.Given as goal

abbrev pub invariant-loop-j : goal.invariant-loop-j
invariant-loop-j l = (length l.t ≡ most_nodes) × ((k : ℕ) → get_or l.t k 0 ≡ uses l.f l.j k)
