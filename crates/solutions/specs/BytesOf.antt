-- The bytes of an assignment. Assumes nothing: these are definitions.
use Rattle.std.specs.Prelude.{List, ℕ, suc, ◌+◌, ◌-◌, ◌*◌, ◌/◌, ◌%◌, ltb}
use Rattle.logic.specs.Tests.{pick}
use Rattle.logic.specs.Digits.{num_of}
use Rattle.rows.specs.Assignment.{Set, Assignment}
use Rattle.solutions.specs.ModelOf.{list_of}

-- "one byte for each set (bit ℓ−1 for location ℓ ..)"
abbrev pub set_byte : ℕ → Set → ℕ
set_byte n S = num_of 2 n (λ i. pick (S (suc i)) 1 0)

-- byte i of the assignment ν: "v location bytes, n value bytes .. for each array, one byte for each set"; a is the number of arrays
abbrev pub byte_of : ℕ → ℕ → ℕ → Assignment → ℕ → ℕ
byte_of v n a ν i =
    pick (ltb i v) (ν.stack (suc i)) (pick (ltb i (v + a * n)) (ν.array ((i - v) / n) (suc ((i - v) % n))) (set_byte n (ν.set (i - (v + a * n)))))

-- and b is the number of sets
unfoldable pub bytes_of : ℕ → ℕ → ℕ → ℕ → Assignment → List ℕ
bytes_of v n a b ν = list_of (v + a * n + b) (byte_of v n a ν)
