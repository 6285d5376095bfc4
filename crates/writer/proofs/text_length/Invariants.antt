-- What the loop keeps.
use mathlib.Core.Path.{◌≡◌}
use Prim.Native.Nat.{◌*◌, ◌≤◌}
use Rattle.logic.specs.Weight.{sum, own_at}
use Rattle.ownwords.specs.OwnWords.{own_byte_count}
use Rattle.writer.proofs.text_length.Given as goal

abbrev pub invariant-loop-k : goal.invariant-loop-k
invariant-loop-k l = (l.bytes ≤ 40 * l.k) × (l.bytes ≡ sum l.k (own_at own_byte_count l.f))
