-- What the loops keep, and what falls.
use Prim.Native.Nat.{◌-◌}
use Rattle.logic.specs.Table.{tree}
use Rattle.logic.specs.Search.{CandidateFits}
use Rattle.sweep.specs.Sweep.{Going}
use Rattle.sweep.proofs.heaps.Given as goal

abbrev pub invariant-loop-i : goal.invariant-loop-i
invariant-loop-i l =
    let b = l.judge.setting in
    Going b.vars b.locs (CandidateFits b.profile b.vars b.locs b.path (tree l.f l.k)) l.from l.to l.i l.c

abbrev pub decreases-loop-i : goal.decreases-loop-i
decreases-loop-i l = l.to - l.i
