-- The rule of the table of the operand kinds, by one test over all of it. Assumes nothing.
use Rattle.std.specs.Prelude.{◌≡◌, refl, Bool, true, List, [], ◌∷◌, map, ℕ, ◌+◌, ◌<◌, eqb, get_or, length}
use Rattle.std.proofs.Common.{ap, arith, eqb-true}
use Rattle.logic.specs.Tests.{andb}
use Rattle.logic.proofs.Reflect.{is_and, is_eq, is_self}
use Rattle.logic.proofs.Entries.{every, entry_of}
use Rattle.logic.specs.Table.{kind_of}
use Rattle.operands.specs.declared.OperandKind.{OperandKind}
use Rattle.operands.specs.declared.OperandKind.TheVariants.{Zero}
use Rattle.operands.specs.Kinds.{code, rows}

cell : ℕ → ℕ → OperandKind → Bool
cell op side x = eqb (code x) (kind_of op side)

-- a row has two kinds, and both are the rule's
right : ℕ → List OperandKind → Bool
right i row = andb (eqb (length row) 2) (every (cell (i + 1)) 0 row)

all_right : every right 0 rows ≡ true
unfolding every right cell kind_of
all_right = refl

row_is : (i : ℕ) → i < 10 → (length (get_or rows i []) ≡ 2) × (every (cell (i + 1)) 0 (get_or rows i []) ≡ true)
unfolding right
row_is i h =
    let row = get_or rows i [] in
    (is_and (eqb (length row) 2) (every (cell (i + 1)) 0 row) (is_eq (length row) 2) (is_self (every (cell (i + 1)) 0 row))).to (entry_of [] right rows all_right i h)

pub row_right : (i j : ℕ) → i < 10 → j < 2 → code (get_or (get_or rows i []) j Zero) ≡ kind_of (i + 1) j
unfolding cell
row_right i j h l =
    let row = get_or rows i [] in
    eqb-true (code (get_or row j Zero)) (kind_of (i + 1) j) (entry_of Zero (cell (i + 1)) row (row_is i h).1 j (omega (arith, (row_is i h).0)))

-- the kinds of both operands, by a row of the table
pub row_kinds : (i : ℕ) → i < 10 → map code (get_or rows i []) ≡ kind_of (i + 1) 0 ∷ kind_of (i + 1) 1 ∷ []
row_kinds i h = go (get_or rows i []) (row_is i h).0 (row_right i 0 h (omega arith)) (row_right i 1 h (omega arith))
  where
    go : (row : List OperandKind) → length row ≡ 2 → code (get_or row 0 Zero) ≡ kind_of (i + 1) 0 → code (get_or row 1 Zero) ≡ kind_of (i + 1) 1 → map code row ≡ kind_of (i + 1) 0 ∷ kind_of (i + 1) 1 ∷ []
    go [] l p q = absurd (omega arith)
    go (a ∷ []) l p q = absurd (omega arith)
    go (a ∷ b ∷ []) l p q = rw (p, q) refl
    go (a ∷ b ∷ c ∷ r) l p q = absurd (omega arith)

-- and each of them, by its place
pub kind_at : (row : List OperandKind) (d : OperandKind) (x y : ℕ) → map code row ≡ x ∷ y ∷ [] → (code (get_or row 0 d) ≡ x) × (code (get_or row 1 d) ≡ y)
kind_at [] d x y e = absurd (omega (arith, ap length e))
kind_at (a ∷ []) d x y e = absurd (omega (arith, ap length e))
kind_at (a ∷ b ∷ []) d x y e = (ap (λ (l : List ℕ). get_or l 0 0) e, ap (λ (l : List ℕ). get_or l 1 0) e)
kind_at (a ∷ b ∷ c ∷ r) d x y e = absurd (omega (arith, ap length e))
