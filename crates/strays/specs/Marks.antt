-- Masks of variables, with bit x for variable x. Assumes nothing: these are definitions.
use Rattle.std.specs.Prelude.{◌≡◌, List, ◌⊎◌, ℕ, suc, ◌<◌, ◌≤◌}
use Rattle.logic.specs.Tests.{in_part}
use Rattle.logic.specs.Reflect.{Is}
use Rattle.logic.specs.Table.{op_of, operand_of}

-- node k is an atom that names the variable x
unfoldable pub NamesAt : List ℕ → ℕ → ℕ → Type 0
NamesAt f k x = (op_of f k ≤ 4) × ((operand_of f k 0 ≡ x) ⊎ (operand_of f k 1 ≡ x))

-- one of the first j nodes is an atom that names x
abbrev pub NamedBelow : List ℕ → ℕ → ℕ → Type 0
NamedBelow f j x = (k : ℕ) × (k < j) × (op_of f k ≤ 4) × ((operand_of f k 0 ≡ x) ⊎ (operand_of f k 1 ≡ x))

-- bit x of m says whether P x; the lowest bit is bit 0, and a part's member 1
abbrev pub Marks : (ℕ → Type 0) → ℕ → Type 0
Marks P m = (x : ℕ) → Is (in_part m (suc x)) (P x)
