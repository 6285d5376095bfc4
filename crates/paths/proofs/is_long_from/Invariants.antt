-- What the loop keeps.
use Rattle.paths.specs.Along.{Walk}
use Rattle.paths.proofs.is_long_from.Given as goal

abbrev pub invariant-loop : goal.invariant-loop
invariant-loop l = Walk l.p l.w l.l l.counter l.d l.m l.missed
