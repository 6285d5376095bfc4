-- `nodes::node` meets its contract. Assumes nothing.
use Rattle.std.proofs.Common.{refl, inl, inr, arith}
use Rattle.logic.specs.Checks.{Answers}
use Rattle.logic.proofs.Reflect.{fails}
use Rattle.nodes.proofs.node.Goals as goal

pub returns-then-operands : goal.returns-then-operands
unfolding Answers
returns-then-operands c = inr ((omega arith, omega arith), inr (c.operands.ensures.to c.if-operands.true, refl))

pub returns-else-operands : goal.returns-else-operands
unfolding Answers
returns-else-operands c = inr ((omega arith, omega arith), inl (fails _ c.operands.ensures c.if-operands.false, refl))

pub returns-in_default : goal.returns-in_default
unfolding Answers
returns-in_default c = inl (λ h. omega (arith, h.0, h.1), refl)

pub returns-in_default-2 : goal.returns-in_default-2
unfolding Answers
returns-in_default-2 c = inl (λ h. omega (arith, h.0, h.1), refl)
