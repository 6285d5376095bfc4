-- What the loop keeps.
use mathlib.Core.Path.{◌≡◌}
use Prim.Native.Nat.{◌*◌, ◌≤◌}
use Rattle.logic.specs.Table.{op_of}
use Rattle.rows.specs.Bounds.{own_row_count}
use Rattle.logic.specs.Weight.{sum}
use Rattle.encoder.proofs.row_count.Given as goal

abbrev pub invariant-loop-k : goal.invariant-loop-k
invariant-loop-k l = (l.r ≤ 511 * l.k) × (l.r ≡ sum l.k (λ j. own_row_count l.source.profile l.source.n (op_of l.source.formula.now j)))
