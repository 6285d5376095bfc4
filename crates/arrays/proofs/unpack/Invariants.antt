-- What the loop keeps.
use mathlib.Core.Path.{◌≡◌}
use mathlib.Core.List.{[]}
use Prim.Native.Nat.{ℕ, ◌<◌}
use lib.ListN.{length, get_or}
use Rattle.logic.specs.Book.{most}
use Rattle.rows.specs.Assigned.{array_in}
use Rattle.rows.specs.Bounds.{most_arrays}
use Rattle.arrays.specs.Unpacked.{values_in}
use Rattle.arrays.proofs.unpack.Given as goal

abbrev pub invariant-loop-i : goal.invariant-loop-i
invariant-loop-i l = (length l.a ≡ most_arrays) × ((k : ℕ) → k < l.i → values_in l.a k ≡ array_in l.v l.n l.arrays l.q k) × ((k : ℕ) → k < most_arrays → length (get_or l.a k []) ≡ most)
