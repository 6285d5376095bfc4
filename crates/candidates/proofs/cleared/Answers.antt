-- `candidates::cleared` meets its contract. Assumes nothing.
use native.Mathlib.Omega.{arith}
use Rattle.candidates.specs.StepLaws.{cleared_shift}
use Rattle.candidates.proofs.cleared.Goals as goal

pub returns : goal.returns
returns c = cleared_shift _ _ (omega arith)
