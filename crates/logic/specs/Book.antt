-- The problem book, byte by byte: its contents, its bodies, what an accepted book is, and what the reader answers. Assumes
-- nothing: these are definitions.
use Rattle.std.specs.Prelude.{◌≡◌, List, [], ◌∷◌, ◌⊎◌, ℕ, zero, suc, ◌+◌, ◌-◌, ◌*◌, ◌/◌, ◌%◌, ◌<◌, ◌≤◌, length, get_or, take, drop}
use Rattle.logic.specs.declared.Answer.{Answer}
use Rattle.logic.specs.Formula.{Form}
use Rattle.logic.specs.Numbers.{answer, yes_number, book_length, contents, bounds, formula_length, operator, operand, tree_shape, entry_kind, entry_stretch}
use Rattle.logic.specs.Checks.{Checks, done, check, ◌then◌, upto, Passes, Answers}
use Rattle.logic.specs.Table.{OperatorOk, OperandsOk, Sound, Tree, uses, tree}

-- the most that v, n and p may be: "Raise all three bounds to 8"
abbrev pub most : ℕ
most = 8

-- the most nodes that a formula has: "1 to 64 nodes"
abbrev pub most_nodes : ℕ
most_nodes = 64

-- "two bytes, low first"
abbrev pub word : List ℕ → ℕ → ℕ
word s i = get_or s i 0 + 256 * get_or s (i + 1) 0

-- "Each entry has five bytes: kind, offset (two bytes, low first), length (two bytes, low first)." Entry e's row starts at
-- byte 1 + 5 * e.
abbrev pub kind : List ℕ → ℕ → ℕ
kind s e = get_or s (1 + 5 * e) 0

abbrev pub offset : List ℕ → ℕ → ℕ
offset s e = word s (1 + 5 * e + 1)

abbrev pub size : List ℕ → ℕ → ℕ
size s e = word s (1 + 5 * e + 3)

-- "A book has 11 to 206 bytes."
abbrev pub LengthOk : List ℕ → Type 0
LengthOk s = (11 ≤ length s) × (length s ≤ 206)

-- "Byte 0 is the number of entries, 2." "Kind 1 is the bounds, kind 2 the formula, in that order. The first body starts at
-- byte 11, the second where the first ends, and the second ends with the book."
pub record ContentsOk (s : List ℕ) : Type 0 where
  pub entries : get_or s 0 0 ≡ 2
  pub bounds_kind : kind s 0 ≡ 1
  pub formula_kind : kind s 1 ≡ 2
  pub first : offset s 0 ≡ 11
  pub second : offset s 1 ≡ offset s 0 + size s 0
  pub ends : offset s 1 + size s 1 ≡ length s

-- the same, part by part, as document 02's refusals take it. "11 is then only the entry count"
abbrev pub CountOk : List ℕ → Type 0
CountOk s = get_or s 0 0 ≡ 2

-- "23 a wrong kind": entry 0 has kind 1 and entry 1 kind 2
abbrev pub KindOk : List ℕ → ℕ → Type 0
KindOk s e = kind s e ≡ suc e

-- "The first body starts at byte 11, the second where the first ends"
unfoldable pub start_of : List ℕ → ℕ → ℕ
start_of s zero = 11
start_of s (suc e) = offset s e + size s e

-- "A length is wrong if the body runs past the book, or if the second doesn't end with it."
unfoldable pub EndOk : List ℕ → ℕ → Type 0
EndOk s zero = offset s 0 + size s 0 ≤ length s
EndOk s (suc e) = offset s (suc e) + size s (suc e) ≡ length s

-- "24 a wrong offset or length"
abbrev pub StretchOk : List ℕ → ℕ → Type 0
StretchOk s e = (offset s e ≡ start_of s e) × EndOk s e

-- "The body of an entry is handed back as that stretch of the caller's bytes"
abbrev pub stretch : List ℕ → ℕ → List ℕ
stretch s e = take (size s e) (drop (offset s e) s)

-- "Bounds: v, n, p, one byte each, each 0 to" k. What a statement says of a bench whose bounds go up to k is its name with
-- `Within`; the name without it is for this bench, in which k is `most`.
pub record BoundsWithin (k : ℕ) (b : List ℕ) : Type 0 where
  pub three : length b ≡ 3
  pub vars : get_or b 0 0 ≤ k
  pub locs : get_or b 1 0 ≤ k
  pub path : get_or b 2 0 ≤ k

abbrev pub BoundsOk : List ℕ → Type 0
BoundsOk b = BoundsWithin most b

abbrev pub vars_of : List ℕ → ℕ
vars_of s = get_or (stretch s 0) 0 0

abbrev pub locs_of : List ℕ → ℕ
locs_of s = get_or (stretch s 0) 1 0

abbrev pub path_of : List ℕ → ℕ
path_of s = get_or (stretch s 0) 2 0

-- "Formula: 1 to 64 nodes, three bytes each": "empty or not a multiple of 3" is refused, and a book has no room for more than
-- 64 nodes
abbrev pub FormulaOk : List ℕ → Type 0
FormulaOk f = (0 < length f) × (length f % 3 ≡ 0)

abbrev pub nodes : List ℕ → ℕ
nodes f = length f / 3

abbrev pub formula_of : List ℕ → List ℕ
formula_of s = stretch s 1

-- "The last node is the root."
abbrev pub root : List ℕ → ℕ
root f = nodes f - 1

-- the formula of the book s
abbrev pub book_formula : List ℕ → Form
book_formula s = tree (formula_of s) (root (formula_of s))

-- "For 23 and 24 the place is the entry, 0 or 1. Refusals: 11, then entry by entry 23 before 24, all between 10 and 12."
abbrev pub entry_checks : List ℕ → ℕ → Checks
entry_checks s e = check (KindOk s e) entry_kind e (check (StretchOk s e) entry_stretch e done)

-- "Order: 10 to 13; then nodes upwards, 14 before 15 at each; 16", "lowest non-root node not used exactly once"
abbrev pub contents_checks : List ℕ → Checks
contents_checks s = check (LengthOk s) book_length 0 (check (CountOk s) contents 0 (entry_checks s 0 then entry_checks s 1))

abbrev pub body_checks_within : ℕ → List ℕ → List ℕ → Checks
body_checks_within k b f = check (BoundsWithin k b) bounds 0 (check (FormulaOk f) formula_length 0 done)

abbrev pub body_checks : List ℕ → List ℕ → Checks
body_checks b f = body_checks_within most b f

abbrev pub node_checks : ℕ → List ℕ → ℕ → Checks
node_checks v f k = check (OperatorOk f k) operator k (check (OperandsOk v f k) operand k done)

abbrev pub use_checks : List ℕ → ℕ → Checks
use_checks f k = check (uses f (nodes f) k ≡ 1) tree_shape k done

abbrev pub table_checks : ℕ → List ℕ → Checks
table_checks v f = upto (node_checks v f) (nodes f) then upto (use_checks f) (root f)

abbrev pub book_checks_within : ℕ → List ℕ → Checks
book_checks_within k s =
    contents_checks s then (body_checks_within k (stretch s 0) (formula_of s) then table_checks (vars_of s) (formula_of s))

abbrev pub book_checks : List ℕ → Checks
book_checks s = book_checks_within most s

-- the contents and the bounds of a book whose second body has that kind, so many bytes, and starts at byte 14
abbrev pub head_of : ℕ → ℕ → ℕ → ℕ → ℕ → List ℕ
head_of kind v n p bytes = 2 ∷ 1 ∷ 11 ∷ 0 ∷ 3 ∷ 0 ∷ kind ∷ 14 ∷ 0 ∷ (bytes % 256) ∷ (bytes / 256) ∷ v ∷ n ∷ p ∷ []

-- what `read` gives back for the book s: number 0, or the refusal of the first part that fails
abbrev pub ReadsWithin : ℕ → List ℕ → Answer → Type 0
ReadsWithin k s a = Answers (book_checks_within k s) (λ r. r ≡ answer yes_number 0) a

unfoldable pub Reads : List ℕ → Answer → Type 0
Reads s a = ReadsWithin most s a

-- what opening the book s gives: the reader's answer and, for an accepted book, its bounds
pub record Opens (s : List ℕ) (a : Answer) (v n p : ℕ) : Type 0 where
  pub answer : Reads s a
  pub bounds : a.number ≡ yes_number → (v ≡ vars_of s) × (n ≡ locs_of s) × (p ≡ path_of s)
  pub none : ¬ (a.number ≡ yes_number) → (v ≡ 0) × (n ≡ 0) × (p ≡ 0)

-- the book is as document 01 says, in every part
abbrev pub AcceptedWithin : ℕ → List ℕ → Type 0
AcceptedWithin k s = Passes (book_checks_within k s)

unfoldable pub Accepted : List ℕ → Type 0
Accepted s = AcceptedWithin most s

-- the book is not refused before 12
abbrev pub LaidOut : List ℕ → Type 0
LaidOut s = LengthOk s × ContentsOk s

-- what an accepted book gives its users, and all that they need
pub record Whole (s : List ℕ) : Type 0 where
  pub laid : LaidOut s
  pub bounds : BoundsOk (stretch s 0)
  pub some : 0 < nodes (formula_of s)
  pub few : nodes (formula_of s) ≤ most_nodes
  pub bytes : length (formula_of s) ≡ 3 * nodes (formula_of s)
  pub sound : Sound (vars_of s) (formula_of s) (nodes (formula_of s))
  pub tree : Tree (formula_of s) (nodes (formula_of s))

-- the table f of v variables, as the reader accepts it
pub record Known (v : ℕ) (f : List ℕ) : Type 0 where
  pub some : 0 < nodes f
  pub few : nodes f ≤ most_nodes
  pub bytes : length f ≡ 3 * nodes f
  pub sound : Sound v f (nodes f)
  pub tree : Tree f (nodes f)

-- the same for code that does not know the number of the variables
abbrev pub KnownTable : List ℕ → Type 0
KnownTable f = (v : ℕ) × Known v f

-- the accepted book s has the formula f and the bounds v, n and p
pub record Bodies (s f : List ℕ) (v n p : ℕ) : Type 0 where
  pub accepted : Accepted s
  pub vars : v ≡ vars_of s
  pub locs : n ≡ locs_of s
  pub path : p ≡ path_of s
  pub formula : f ≡ formula_of s

-- what `body` hands back: "an empty one if the book is refused before 12, or for an entry other than 0 or 1"
abbrev pub Given : List ℕ → ℕ → Type 0
Given s e = LaidOut s × (e ≤ 1)

unfoldable pub Body : List ℕ → ℕ → List ℕ → Type 0
Body s e r = (Given s e × (r ≡ stretch s e)) ⊎ ((¬ Given s e) × (r ≡ []))

-- the same by its place: where it starts in the book and how long it is
unfoldable pub Placed : List ℕ → ℕ → ℕ → ℕ → Type 0
Placed s e start len = (Given s e × ((start ≡ offset s e) × (len ≡ size s e))) ⊎ ((¬ Given s e) × ((start ≡ 0) × (len ≡ 0)))
