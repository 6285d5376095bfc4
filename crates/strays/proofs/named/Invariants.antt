-- What the loops keep.
use Prim.Native.Nat.{◌-◌}
use Rattle.logic.specs.Checks.{upto, Passes}
use Rattle.logic.specs.Strays.{name_checks}
use Rattle.strays.proofs.named.Given as goal

abbrev pub invariant-loop-x : goal.invariant-loop-x
invariant-loop-x l = Passes (upto (name_checks l.f) (l.x - 1))
