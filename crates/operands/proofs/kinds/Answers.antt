-- `operands::kinds` meets its contract. Assumes nothing.
use Rattle.std.specs.Prelude.{◌≡◌, [], ◌∷◌, ℕ, ◌+◌, ◌-◌, map, get_or}
use Rattle.std.proofs.Common.{◌∙◌, ap, arith}
use Rattle.logic.specs.Table.{kind_of}
use Rattle.operands.specs.Kinds.{code, rows}
use Rattle.operands.proofs.KindLaws.{row_kinds}
use Rattle.operands.proofs.kinds.Goals as goal

pub returns : goal.returns
returns c =
    let i : c.from.result ≡ c.args.op - 1 = c.from.ensures in
    let e : c.args.op - 1 + 1 ≡ c.args.op = omega arith in
    ap (λ (k : ℕ). map code (get_or rows k [])) i ∙ row_kinds (c.args.op - 1) (omega arith) ∙ ap (λ (o : ℕ). kind_of o 0 ∷ kind_of o 1 ∷ []) e
