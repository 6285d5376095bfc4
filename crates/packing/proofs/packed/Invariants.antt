-- What the loop keeps.
use mathlib.Core.Path.{◌≡◌}
use Rattle.packing.specs.Packing.{packed_from}
use Rattle.packing.proofs.packed.Given as goal

abbrev pub invariant-loop-i : goal.invariant-loop-i
invariant-loop-i l = l.w ≡ packed_from l.cell l.model l.from l.count l.i
