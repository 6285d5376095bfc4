-- `rootfacts::root_facts` meets its contract. Assumes nothing.
use native.Mathlib.Omega.{arith}
use Rattle.rootfacts.specs.RootLaws.{hopeless_facts}
use Rattle.rootfacts.proofs.root_facts.Goals as goal

pub returns-then-a-eq0 : goal.returns-then-a-eq0
returns-then-a-eq0 c = hopeless_facts _ _ _ _ _ _ c.node_fact-a.ensures c.if-a-eq0.true c.requires.few_locs

pub returns : goal.returns
returns c = λ ℓ m. c.loop-l.invariant.1 ℓ (omega arith)
