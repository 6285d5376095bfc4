-- A refusal's answer has its number and its place. Assumes nothing.
use Rattle.leaves.proofs.AnswerFromRefusal.from.Goals as goal

pub returns-in-Operator : goal.returns-in-Operator
returns-in-Operator c = rw c.in-Operator.is c.answer_of-in-Operator.ensures
