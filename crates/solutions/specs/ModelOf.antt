-- The model of an assignment, as bytes. Assumes nothing: these are definitions.
use Rattle.std.specs.Prelude.{List, [], ◌∷◌, ℕ, zero, suc, ◌+◌, ◌-◌, ltb, get_or}
use Rattle.logic.specs.Tests.{orb, pick}
use Rattle.logic.specs.Book.{book_formula, vars_of, locs_of}
use Rattle.rows.specs.Table.{arrays}
use Rattle.rows.specs.Assigned.{set_in}

-- the list f 0, f 1, .., f (k - 1)
unfoldable pub list_of : ℕ → (ℕ → ℕ) → List ℕ
list_of zero f = []
list_of (suc k) f = f 0 ∷ list_of k (λ i. f (suc i))

-- "Its model is the stack and array 0 on set 0.": byte i of the assignment q, or 255 for a location outside set 0; a is the number
-- of arrays
abbrev pub model_byte : ℕ → ℕ → ℕ → List ℕ → ℕ → ℕ
model_byte v n a q i = pick (orb (ltb i v) (set_in v n a q 0 (suc (i - v)))) (get_or q i 0) 255

unfoldable pub model_of : ℕ → ℕ → ℕ → List ℕ → List ℕ
model_of v n a q = list_of (v + n) (model_byte v n a q)

-- the model of the assignment q, for the book s
abbrev pub model_in : List ℕ → List ℕ → List ℕ
model_in s q = model_of (vars_of s) (locs_of s) (arrays (book_formula s)) q
