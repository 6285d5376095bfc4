-- `candidates::Candidate::pass_stack` meets its contract. Assumes nothing.
use native.Mathlib.Omega.{arith}
use Rattle.candidates.specs.PassLaws.{pass_stack}
use Rattle.candidates.proofs.Candidate.pass_stack.Goals as goal

pub returns : goal.returns
returns c = pass_stack _ c.requires.0 _ (omega (arith, c.requires.1)) _ c.bump.ensures
