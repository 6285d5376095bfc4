-- `candidates::Candidate::next` meets its contract. Assumes nothing.
use Rattle.candidates.specs.PassLaws.{passes_next}
use Rattle.candidates.proofs.Candidate.next.Goals as goal

pub returns : goal.returns
returns c = passes_next _ _ c.pass.ensures
