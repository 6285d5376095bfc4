-- What the loops keep, and what falls.
use Prim.Native.Nat.{◌+◌, ◌*◌}
use Rattle.rowjudge.proofs.Judge.+both_join_node.Given as goal

abbrev pub decreases-both : goal.decreases-both
decreases-both l = 3 * l.k

abbrev pub decreases-join : goal.decreases-join
decreases-join l = 3 * l.k + 1

abbrev pub decreases-node : goal.decreases-node
decreases-node l = 3 * l.k + 2
