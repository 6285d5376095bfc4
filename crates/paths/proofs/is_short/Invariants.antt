-- What the loop keeps.
use Rattle.paths.specs.Along.{NoneBelow}
use Rattle.paths.proofs.is_short.Given as goal

abbrev pub invariant-loop-l : goal.invariant-loop-l
invariant-loop-l l = NoneBelow l.p l.w l.l
