-- `strays::marks` meets its contract. Assumes nothing.
use native.Mathlib.Omega.{arith}
use Rattle.strays.specs.MarkLaws.{marks_none, marks_more}
use Rattle.strays.proofs.marks.Goals as goal

pub loop-k-init : goal.loop-k-init
loop-k-init c = marks_none _ (λ x q. omega (arith, q.1))

pub loop-k-preserved : goal.loop-k-preserved
loop-k-preserved c = let l = c.loop-k in marks_more c.args.f.now l.k l.m c.marks_of-m.result l.invariant c.marks_of-m.ensures
