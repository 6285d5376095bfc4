-- `candidates::unpacked` meets its contract. Assumes nothing.
use Rattle.candidates.specs.UnpackLaws.{unpacking_none, unpacking_more, unpacking_done}
use Rattle.candidates.proofs.unpacked.Goals as goal

pub loop-i-init : goal.loop-i-init
loop-i-init c = unpacking_none _ _ _

pub loop-i-preserved : goal.loop-i-preserved
loop-i-preserved c = unpacking_more _ _ _ _ _ _ _ c.loop-i.invariant c.loop-i-test.true c.placed-r.ensures

pub returns : goal.returns
returns c = unpacking_done _ _ _ _ _ _ c.loop-i.invariant c.loop-i-test.false
