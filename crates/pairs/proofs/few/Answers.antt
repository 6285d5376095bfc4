-- `pairs::few` meets its contract: the whole table passes the test, which antt computes. Assumes nothing.
use mathlib.Core.Path.{refl}
use native.Mathlib.Omega.{arith}
use Rattle.pairs.specs.Pairs.{next, follow, in_order, begins}
use Rattle.pairs.proofs.few.Goals as goal

pub returns : goal.returns
unfolding next follow in_order begins
returns c =
    (record { locs = 6; enough = omega arith; few = omega arith; passed = record { long = refl; ordered = refl; begun = refl } }, refl)
