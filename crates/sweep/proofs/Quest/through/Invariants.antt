-- What the loops keep, and what falls.
use Prim.Native.Nat.{◌-◌}
use Rattle.logic.specs.Table.{tree}
use Rattle.logic.specs.Search.{CandidateFits}
use Rattle.sweep.specs.Sweep.{Going}
use Rattle.sweep.proofs.Quest.through.Given as goal

abbrev pub invariant-loop-i : goal.invariant-loop-i
invariant-loop-i l =
    let q = l.self in
    Going q.vars q.locs (CandidateFits q.profile q.vars q.locs q.path (tree q.table.now q.node)) l.from l.to l.i l.c

abbrev pub decreases-loop-i : goal.decreases-loop-i
decreases-loop-i l = l.to - l.i
