-- `operands::operands` meets its contract. Assumes nothing.
use Rattle.std.specs.Prelude.{◌≡◌, Bool, List, ℕ}
use Rattle.std.proofs.Common.{◌∙◌, ap, subst}
use Rattle.logic.specs.Reflect.{Is}
use Rattle.logic.proofs.Reflect.{is_iff, fails}
use Rattle.logic.specs.Table.{Operand, OperandOk, kind_of, op_of, operand_of}
use Rattle.operands.proofs.KindLaws.{kind_at}
use Rattle.operands.proofs.operands.Goals as goal

-- a test by the operator's kind is one of node k's operand
by_kind : (v : ℕ) (f : List ℕ) (k op side t : ℕ) (b : Bool) → op ≡ op_of f k → t ≡ kind_of op side → Is b (Operand v k t (operand_of f k side)) → Is b (OperandOk v f k side)
by_kind v f k op side t b o e i = subst (λ (u : ℕ). Is b (Operand v k u (operand_of f k side))) (e ∙ ap (λ (p : ℕ). kind_of p side) o) i

pub returns-then-is_operand : goal.returns-then-is_operand
returns-then-is_operand c =
    let a = c.args in
    let kind = kind_at c.kinds.result _ _ _ c.kinds.ensures in
    let first = by_kind a.v a.f.now a.k a.op 0 _ _ c.requires.1 kind.0 c.is_operand.ensures in
    let second = by_kind a.v a.f.now a.k a.op 1 _ _ c.requires.1 kind.1 c.is_operand-then-is_operand.ensures in
    is_iff second (λ q. (first.to c.if-is_operand.true, q)) (λ q. q.1)

pub returns-else-is_operand : goal.returns-else-is_operand
returns-else-is_operand c =
    let a = c.args in
    let kind = kind_at c.kinds.result _ _ _ c.kinds.ensures in
    let first = by_kind a.v a.f.now a.k a.op 0 _ _ c.requires.1 kind.0 c.is_operand.ensures in
    is_iff first (λ q. absurd (fails _ first c.if-is_operand.false q)) (λ q. q.0)
