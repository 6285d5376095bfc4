-- The variables that a formula's atoms name, which is a word about variables; `Heap.Named` is one about locations. Assumes
-- nothing: these are definitions.
use Rattle.std.specs.Prelude.{◌≡◌, List, ◌⊎◌, ℕ, suc, ◌<◌, ◌≤◌}
use Rattle.logic.specs.Numbers.{stray_variable}
use Rattle.logic.specs.Checks.{Checks, done, check}
use Rattle.logic.specs.Table.{op_of, operand_of}
use Rattle.logic.specs.Book.{nodes}

-- an atom of the formula f names the variable x: it is an operand of a node of operator 1 to 4
abbrev pub NamedByAtom : List ℕ → ℕ → Type 0
NamedByAtom f x = (k : ℕ) × (k < nodes f) × (op_of f k ≤ 4) × ((operand_of f k 0 ≡ x) ⊎ (operand_of f k 1 ≡ x))

-- "Refusals: 25, place the lowest unnamed variable": variables are 1 to v, and this is variable i + 1
abbrev pub name_checks : List ℕ → ℕ → Checks
name_checks f i = check (NamedByAtom f (suc i)) stray_variable (suc i) done
