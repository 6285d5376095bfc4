-- `atomfacts::diff_fact` meets its contract. Assumes nothing.
use Rattle.atomfacts.specs.AtomLaws.{diff_there, diff_elsewhere, numbers_are}
use Rattle.atomfacts.proofs.diff_fact.Goals as goal
use Rattle.atomfacts.proofs.diff_fact.Goals.{then-a-b, else-a-b}

pub returns : goal.returns
returns c =
    elim c.if-a-b.branch [
      | then-a-b w ↦ diff_there _ _ _ _ _ w.if-a-b.true (numbers_are w.result-is)
      | else-a-b w ↦ diff_elsewhere _ _ _ _ _ w.if-a-b.false (numbers_are w.result-is)
    ]
