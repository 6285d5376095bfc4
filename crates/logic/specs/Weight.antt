-- What proofs/Weight speaks of. Assumes nothing: these are definitions.
use Rattle.std.specs.Prelude.{◌≡◌, List, ℕ, zero, suc, ◌+◌, ◌≤◌, eqb}
use Rattle.logic.specs.Tests.{pick}
use Rattle.logic.specs.Formula.{Form}
use Rattle.logic.specs.Table.{op_of, operand_of, kind_of, atom_of, join_of}

-- f 0 + f 1 + .. + f (n - 1)
unfoldable pub sum : ℕ → (ℕ → ℕ) → ℕ
sum zero f = 0
sum (suc n) f = sum n f + f n

-- what operand a (side 0) or b (side 1) of a node weighs, if it is a child
abbrev pub kid : ℕ → ℕ → ℕ → ℕ
kid o side x = pick (eqb (kind_of o side) 2) x 0

abbrev pub kids : List ℕ → (ℕ → ℕ) → ℕ → ℕ
kids f w k = kid (op_of f k) 0 (w (operand_of f k 0)) + kid (op_of f k) 1 (w (operand_of f k 1))

-- W of a formula is `own` of its operator and operands, and W of its children
pub record Adds (W : Form → ℕ) (own : ℕ → ℕ → ℕ → ℕ) : Type 0 where
  pub atom : (o x y : ℕ) → 1 ≤ o → o ≤ 4 → W (atom_of o x y) ≡ own o x y
  pub join : (o x y : ℕ) (a b : Form) → 5 ≤ o → o ≤ 10 → W (join_of o a b) ≡ own o x y + (kid o 0 (W a) + kid o 1 (W b))

-- the same of a node
abbrev pub own_at : (ℕ → ℕ → ℕ → ℕ) → List ℕ → ℕ → ℕ
own_at own f k = own (op_of f k) (operand_of f k 0) (operand_of f k 1)
