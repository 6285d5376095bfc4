-- `words::emp` meets its contract. Assumes nothing.
use Rattle.words.specs.WordLaws.{emp_is}
use Rattle.words.proofs.emp.Goals as goal

pub returns : goal.returns
returns c = emp_is c.args.s.now c.args.at c.requires.1 c.requires.0 c.spelled.result c.spelled.ensures
