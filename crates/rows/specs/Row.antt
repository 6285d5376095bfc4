-- The thirteen rows, and their bytes. Assumes nothing: these are definitions.
use Rattle.std.specs.Prelude.{List, [], ◌∷◌, ◌++◌, ℕ, ◌/◌, ◌%◌}
use Rattle.rows.specs.declared.Fields.{Fields}

-- "EQ x y", "NE x y"; "EMPTY S"; "ONE S x"; "AT A x y"; "CHAIN A S x y, k"; "AND, OR, NOT over row numbers"; "SPLIT S S1 S2";
-- "APART A S1 S2"; "SAME A B S"; "LONG A S k". x and y are variables, S, S1 and S2 sets, A and B arrays
pub data Row : Type 0 where
  EQ NE : ℕ → ℕ → Row
  EMPTY : ℕ → Row
  ONE : ℕ → ℕ → Row
  AT : ℕ → ℕ → ℕ → Row
  CHAIN : ℕ → ℕ → ℕ → ℕ → ℕ → Row
  AND OR : ℕ → ℕ → Row
  NOT : ℕ → Row
  SPLIT APART SAME LONG : ℕ → ℕ → ℕ → Row

-- a row of operator o without k; "unused ones are 0"
abbrev pub plain : ℕ → ℕ → ℕ → ℕ → Fields
plain o x y z = record { op = o; k = 0; a = x; b = y; c = z; d = 0 }

-- the operator of each row, in the order of document 01's table, and its operands in the order in which they are named there
unfoldable pub fields_of : Row → Fields
fields_of (EQ x y) = plain 1 x y 0
fields_of (NE x y) = plain 2 x y 0
fields_of (EMPTY S) = plain 3 S 0 0
fields_of (ONE S x) = plain 4 S x 0
fields_of (AT A x y) = plain 5 A x y
fields_of (CHAIN A S x y k) = record { op = 6; k = k; a = A; b = S; c = x; d = y }
fields_of (AND r q) = plain 7 r q 0
fields_of (OR r q) = plain 8 r q 0
fields_of (NOT r) = plain 9 r 0 0
fields_of (SPLIT S S1 S2) = plain 10 S S1 S2
fields_of (APART A S1 S2) = plain 11 A S1 S2
fields_of (SAME A B S) = plain 12 A B S
fields_of (LONG A S k) = record { op = 13; k = k; a = A; b = S; c = 0; d = 0 }

-- "A row has ten bytes: operator, k, four two-byte operands, low first"
abbrev pub ten_bytes : Fields → List ℕ
ten_bytes r =
    r.op ∷ r.k ∷ r.a % 256 ∷ r.a / 256 ∷ r.b % 256 ∷ r.b / 256 ∷ r.c % 256 ∷ r.c / 256 ∷ r.d % 256 ∷ r.d / 256 ∷ []

unfoldable pub bytes_of : List Row → List ℕ
bytes_of [] = []
bytes_of (r ∷ rs) = ten_bytes (fields_of r) ++ bytes_of rs
