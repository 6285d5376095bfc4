-- What the loops keep.
use Rattle.strays.specs.Marks.{NamedBelow, Marks}
use Rattle.strays.proofs.marks.Given as goal

abbrev pub invariant-loop-k : goal.invariant-loop-k
invariant-loop-k l = Marks (NamedBelow l.f l.k) l.m
