-- `operands::is_operand` meets its contract. Assumes nothing.
use Rattle.std.proofs.Common.{ap, arith}
use Rattle.logic.proofs.TableLaws.{is_zero, is_variable, is_child}
use Rattle.operands.specs.Kinds.{code}
use Rattle.operands.proofs.is_operand.Goals as goal

pub returns-in-Zero : goal.returns-in-Zero
returns-in-Zero c = let a = c.args in is_zero a.v a.k (code a.kind) a.x (ap code c.in-Zero.is)

pub returns-in-Variable : goal.returns-in-Variable
returns-in-Variable c = let a = c.args in is_variable a.v a.k (code a.kind) a.x (ap code c.in-Variable.is)

pub returns-in-Child : goal.returns-in-Child
returns-in-Child c =
    let a = c.args in
    rw c.from.ensures (is_child a.v a.k (code a.kind) a.x (λ e. omega (arith, ap code c.in-Child.is, e)) (λ e. omega (arith, ap code c.in-Child.is, e)))
