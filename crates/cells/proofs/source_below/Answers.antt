-- `cells::source_below` meets its contract. Assumes nothing.
use mathlib.Core.Path.{refl}
use Prim.Native.Nat.{zero-le}
use native.Mathlib.Omega.{arith}
use Rattle.logic.proofs.Reflect.{fails}
use Rattle.cells.specs.Sources.{no_source_next}
use Rattle.cells.proofs.source_below.Goals as goal

pub loop-l-init : goal.loop-l-init
loop-l-init c = λ ℓ k m s. absurd (omega arith)

pub loop-l-preserved : goal.loop-l-preserved
loop-l-preserved c = no_source_next _ _ _ _ c.loop-l-test.true c.loop-l.invariant (fails _ c.is_source.ensures c.if-is_source.false)

pub returns : goal.returns
returns c = record { low = zero-le; source = λ n. absurd (n refl); passed = λ ℓ k. c.loop-l.invariant ℓ (omega arith) }
