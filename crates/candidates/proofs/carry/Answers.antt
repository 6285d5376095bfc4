-- `candidates::carry` meets its contract. Assumes nothing.
use native.Mathlib.Numerals.{add-one}
use native.Mathlib.Omega.{arith}
use Rattle.candidates.specs.StepLaws.{turned_more, carries_more, carries_last}
use Rattle.candidates.proofs.carry.Goals as goal

pub returns-then-d-b : goal.returns-then-d-b
returns-then-d-b c = carries_more _ _ _ _ _ _ _ _ _ c.loop-i.invariant c.loop-i-test.true (add-one _) c.cell-d.ensures c.placed-g.ensures _ c.if-d-b.true c.placed.ensures

pub loop-i-preserved : goal.loop-i-preserved
loop-i-preserved c = turned_more _ _ _ _ _ _ _ _ _ c.loop-i.invariant c.loop-i-test.true (add-one _) c.cell-d.ensures c.placed-g.ensures (λ n. absurd (omega (arith, c.if-d-b.false)))

pub returns : goal.returns
returns c = carries_last _ _ _ _ _ _ c.loop-i.invariant (λ n. absurd (omega (arith, c.loop-i-test.false)))
