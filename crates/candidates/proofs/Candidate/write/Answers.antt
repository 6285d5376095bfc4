-- `candidates::Candidate::write` meets its contract. Assumes nothing.
use Rattle.candidates.specs.Written.{model_written}
use Rattle.candidates.proofs.Candidate.write.Goals as goal

pub returns : goal.returns
returns c =
    let a = c.args.self in
    model_written a.vars a.locs a.stack a.heap c.args.out.now c.put.new.out c.put-2.new.out c.put.ensures c.put-2.ensures
