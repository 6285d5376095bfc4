-- What the loop keeps.
use mathlib.Core.Path.{◌≡◌}
use Prim.Native.Nat.{◌+◌, ◌≤◌}
use Rattle.words.specs.Words.{OverBlanks}
use Rattle.words.proofs.inks.Given as goal

abbrev pub invariant-loop-k : goal.invariant-loop-k
invariant-loop-k l = (l.n ≤ l.k) × (l.n ≡ 0 → OverBlanks l.s l.at (l.at + l.k))
