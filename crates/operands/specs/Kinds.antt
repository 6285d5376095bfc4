-- The table of the operand kinds. Assumes nothing: these are definitions.
use Rattle.std.specs.Prelude.{List, [], ◌∷◌, ℕ}
use Rattle.operands.specs.declared.OperandKind.{OperandKind}
use Rattle.operands.specs.declared.OperandKind.TheVariants.{Zero, Variable, Child}

-- 0 is "zero", 1 "a variable", 2 "a child"
abbrev pub code : OperandKind → ℕ
code Zero = 0
code Variable = 1
code Child = 2

-- "a fixed table of ten rows gives each operator's operand kinds": the rows of operators 1 to 10, a's kind before b's
abbrev pub rows : List (List OperandKind)
rows =
    (Variable ∷ Variable ∷ []) ∷ (Variable ∷ Variable ∷ []) ∷ (Variable ∷ Variable ∷ []) ∷ (Variable ∷ Variable ∷ []) ∷ (Child ∷ Child ∷ []) ∷
    (Child ∷ Child ∷ []) ∷ (Child ∷ Child ∷ []) ∷ (Child ∷ Zero ∷ []) ∷ (Child ∷ Child ∷ []) ∷ (Child ∷ Child ∷ []) ∷ []
