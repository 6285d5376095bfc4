-- Which rows a formula gives, which formulas can be encoded, and where the numbering starts. Assumes nothing: these are
-- definitions.
use Rattle.std.specs.Prelude.{List, [], ◌∷◌, ◌++◌, ℕ, zero, suc, ◌+◌, ◌-◌}
use Rattle.logic.specs.declared.Profile.{Profile}
use Rattle.logic.specs.declared.Profile.TheVariants.{Strong, Ordinary}
use Rattle.logic.specs.Formula.{Form}
use Rattle.logic.specs.Formula.Form.{same, diff, pts, ls, conj, disj, but, neg, sep, sept}
use Rattle.rows.specs.declared.Next.{Next}
use Rattle.rows.specs.Row.{Row}
use Rattle.rows.specs.Row.Row.{EQ, NE, EMPTY, ONE, AT, CHAIN, AND, OR, NOT, SPLIT, APART, SAME, LONG}

-- how many new arrays and sets a formula has: "Operator 9 makes S1, S2", "Operator 10 makes array B and S1, S2"
unfoldable pub arrays_in : Form → ℕ
arrays_in (same x y) = 0
arrays_in (diff x y) = 0
arrays_in (pts x y) = 0
arrays_in (ls x y) = 0
arrays_in (conj a b) = arrays_in a + arrays_in b
arrays_in (disj a b) = arrays_in a + arrays_in b
arrays_in (but a b) = arrays_in a + arrays_in b
arrays_in (neg a) = arrays_in a
arrays_in (sep a b) = arrays_in a + arrays_in b
arrays_in (sept a b) = 1 + (arrays_in a + arrays_in b)

unfoldable pub sets_in : Form → ℕ
sets_in (same x y) = 0
sets_in (diff x y) = 0
sets_in (pts x y) = 0
sets_in (ls x y) = 0
sets_in (conj a b) = sets_in a + sets_in b
sets_in (disj a b) = sets_in a + sets_in b
sets_in (but a b) = sets_in a + sets_in b
sets_in (neg a) = sets_in a
sets_in (sep a b) = 2 + (sets_in a + sets_in b)
sets_in (sept a b) = 2 + (sets_in a + sets_in b)

-- the numbers after r rows, i arrays and j sets more
abbrev pub moved : Next → ℕ → ℕ → ℕ → Next
moved s r i j = record { row = s.row + r; array = s.array + i; set = s.set + j }

-- "Operator 9 makes S1, S2 for its children": they are sets number s.set and s.set + 1
abbrev pub two_sets : Next → Next
two_sets s = record { row = s.row; array = s.array; set = s.set + 2 }

-- "Operator 10 makes array B and S1, S2": B is array number s .array
abbrev pub array_and_sets : Next → Next
array_and_sets s = record { row = s.row; array = s.array + 1; set = s.set + 2 }

-- CHAIN 0 to CHAIN k - 1
unfoldable pub chains : ℕ → ℕ → ℕ → ℕ → ℕ → List Row
chains A S x y zero = []
chains A S x y (suc k) = chains A S x y k ++ (CHAIN A S x y k ∷ [])

-- the row of the result so far, before OR number m: CHAIN 0 is row r, the first OR is row q
unfoldable pub so_far : ℕ → ℕ → ℕ → ℕ
so_far r q zero = r
so_far r q (suc m) = q + m

-- the first m ORs, "joining left to right"
unfoldable pub ors : ℕ → ℕ → ℕ → List Row
ors r q zero = []
ors r q (suc m) = ors r q m ++ (OR (so_far r q m) (r + m + 1) ∷ [])

-- two rows and their AND, from row r on
abbrev pub pair_rows : ℕ → Row → Row → List Row
pair_rows r x y = x ∷ y ∷ AND r (r + 1) ∷ []

-- "Each AND takes the result so far first": the row after r, which is the result so far, and their AND
abbrev pub also : ℕ → Row → List Row
also r x = x ∷ AND r (r + 1) ∷ []

-- "without APART rows and the AND after each" in the ordinary profile
abbrev pub also_apart : Profile → ℕ → Row → List Row
also_apart Strong r x = also r x
also_apart Ordinary r x = []

abbrev pub apart_row_count : Profile → ℕ
apart_row_count Strong = 2
apart_row_count Ordinary = 0

-- own rows of operator 9, from row m on: "AND of the children, SPLIT S S1 S2, AND, APART A S1 S2, AND". l is the row after a's
abbrev pub sep_rows : Profile → ℕ → ℕ → ℕ → ℕ → ℕ → ℕ → List Row
sep_rows π A S S1 S2 l m = (AND (l - 1) (m - 1) ∷ also m (SPLIT S S1 S2)) ++ also_apart π (m + 2) (APART A S1 S2)

-- own rows of operator 10: "AND of the children, SPLIT S2 S1 S, AND, APART B S1 S, AND, SAME A B S, AND"
abbrev pub sept_rows : Profile → ℕ → ℕ → ℕ → ℕ → ℕ → ℕ → ℕ → List Row
sept_rows π A B S S1 S2 l m =
    ((AND (l - 1) (m - 1) ∷ also m (SPLIT S2 S1 S)) ++ also_apart π (m + 2) (APART B S1 S)) ++ also (m + 2 + apart_row_count π) (SAME A B S)

-- "Allowed: no operator 9 or 10 below operator 8 or in the b side of operator 7": neither of them in a formula, and in none of
-- those places of a formula
unfoldable pub Flat : Form → Type 0
Flat (same x y) = Unit {0}
Flat (diff x y) = Unit {0}
Flat (pts x y) = Unit {0}
Flat (ls x y) = Unit {0}
Flat (conj a b) = Flat a × Flat b
Flat (disj a b) = Flat a × Flat b
Flat (but a b) = Flat a × Flat b
Flat (neg a) = Flat a
Flat (sep a b) = ⊥
Flat (sept a b) = ⊥

unfoldable pub Encodable : Form → Type 0
Encodable (same x y) = Unit {0}
Encodable (diff x y) = Unit {0}
Encodable (pts x y) = Unit {0}
Encodable (ls x y) = Unit {0}
Encodable (conj a b) = Encodable a × Encodable b
Encodable (disj a b) = Encodable a × Encodable b
Encodable (but a b) = Encodable a × Flat b
Encodable (neg a) = Flat a
Encodable (sep a b) = Encodable a × Encodable b
Encodable (sept a b) = Encodable a × Encodable b

-- n is the number of locations: no list segment has more links
module _ (π : Profile) (n : ℕ) where
  -- how many rows a formula has
  unfoldable pub rows_in : Form → ℕ
  rows_in (same x y) = 3
  rows_in (diff x y) = 3
  rows_in (pts x y) = 3
  rows_in (ls x y) = n + 1 + n
  rows_in (conj a b) = rows_in a + rows_in b + 1
  rows_in (disj a b) = rows_in a + rows_in b + 1
  rows_in (but a b) = rows_in a + rows_in b + 2
  rows_in (neg a) = rows_in a + 1
  rows_in (sep a b) = rows_in a + rows_in b + (3 + apart_row_count π)
  rows_in (sept a b) = rows_in a + rows_in b + (5 + apart_row_count π)

  -- "New symbols are numbered by a walk from the root, a node before its children, a's tree before b's.": the numbers after a
  -- formula
  abbrev pub after : Form → Next → Next
  after F s = moved s (rows_in F) (arrays_in F) (sets_in F)

  -- "Rows come a's tree, b's tree, own rows": the rows of a formula over array A and set S, where s has the numbers of what is
  -- new. The last row of a tree is the one before the next. "= gives EQ, EMPTY, AND; ≠ gives NE, EMPTY, AND; ↦ gives ONE, AT,
  -- AND; ls gets CHAIN 0 to n, then n ORs joining left to right. Operators 5, 6, 8 give one row; 7 gives NOT of b's last row,
  -- then AND. Operator 9 makes S1, S2 for its children over A .. Operator 10 makes array B and S1, S2 over B .. Each AND takes
  -- the result so far first."
  unfoldable pub rows_of : Form → ℕ → ℕ → Next → List Row
  rows_of (same x y) A S s = pair_rows s.row (EQ x y) (EMPTY S)
  rows_of (diff x y) A S s = pair_rows s.row (NE x y) (EMPTY S)
  rows_of (pts x y) A S s = pair_rows s.row (ONE S x) (AT A x y)
  rows_of (ls x y) A S s = chains A S x y (n + 1) ++ ors s.row (s.row + (n + 1)) n
  rows_of (conj a b) A S s =
      let t = after a s in
      let u = after b t in
      (rows_of a A S s ++ rows_of b A S t) ++ (AND (t.row - 1) (u.row - 1) ∷ [])
  rows_of (disj a b) A S s =
      let t = after a s in
      let u = after b t in
      (rows_of a A S s ++ rows_of b A S t) ++ (OR (t.row - 1) (u.row - 1) ∷ [])
  rows_of (but a b) A S s =
      let t = after a s in
      let u = after b t in
      (rows_of a A S s ++ rows_of b A S t) ++ (NOT (u.row - 1) ∷ AND (t.row - 1) u.row ∷ [])
  rows_of (neg a) A S s = rows_of a A S s ++ (NOT ((after a s).row - 1) ∷ [])
  rows_of (sep a b) A S s =
      let S1 = s.set in
      let S2 = s.set + 1 in
      let t = after a (two_sets s) in
      let u = after b t in
      (rows_of a A S1 (two_sets s) ++ rows_of b A S2 t) ++ sep_rows π A S S1 S2 t.row u.row
  rows_of (sept a b) A S s =
      let B = s.array in
      let S1 = s.set in
      let S2 = s.set + 1 in
      let t = after a (array_and_sets s) in
      let u = after b t in
      (rows_of a B S1 (array_and_sets s) ++ rows_of b B S2 t) ++ sept_rows π A B S S1 S2 t.row u.row

-- "Array 0 and set 0 are the root's."; "row numbers start at 0"
abbrev pub start : Next
start = record { row = 0; array = 1; set = 1 }

-- the rows of a whole formula, and how many arrays and sets they are over
-- "the last two rows are LONG over array 0 and set 0 with p, and an AND"
abbrev pub table : Profile → ℕ → ℕ → Form → List Row
table π n p F = rows_of π n F 0 0 start ++ also (rows_in π n F - 1) (LONG 0 0 p)

abbrev pub arrays : Form → ℕ
arrays F = 1 + arrays_in F

abbrev pub sets : Form → ℕ
sets F = 1 + sets_in F
