-- What the loops keep, and what falls.
use Prim.Native.Nat.{◌-◌, ◌≤◌}
use lib.ListN.{length}
use Rattle.words.specs.Words.{OverBlanks}
use Rattle.words.proofs.far.Given as goal

abbrev pub invariant-loop-e : goal.invariant-loop-e
invariant-loop-e l = (l.at ≤ l.e) × (l.e ≤ length l.s) × OverBlanks l.s l.at l.e

abbrev pub decreases-loop-e : goal.decreases-loop-e
decreases-loop-e l = length l.s - l.e
