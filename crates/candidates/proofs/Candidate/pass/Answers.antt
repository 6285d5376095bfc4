-- `candidates::Candidate::pass` meets its contract. Assumes nothing.
use native.Mathlib.Omega.{arith}
use Rattle.candidates.specs.PassLaws.{pass_low, pass_carried}
use Rattle.candidates.proofs.Candidate.pass.Goals as goal

pub returns-then-next-eq0 : goal.returns-then-next-eq0
returns-then-next-eq0 c = pass_carried _ c.requires.0 _ (omega (arith, c.requires.1)) c.bump.result c.bump.ensures c.if-next-eq0.true _ c.bump-then-next-eq0.ensures

pub returns-else-next-eq0 : goal.returns-else-next-eq0
returns-else-next-eq0 c = pass_low _ c.requires.0 _ (omega (arith, c.requires.1)) c.bump.result c.bump.ensures (omega arith) c.if-next-eq0.false
