-- What proofs/ListingLaws speaks of. Assumes nothing: these are definitions.
use Rattle.std.specs.Prelude.{◌≡◌, List, ℕ, ◌+◌, ◌-◌, ◌≤◌}
use Rattle.logic.specs.Formula.{Form}
use Rattle.logic.specs.Formula.Form.{same, diff, pts, ls, conj, disj, but, neg, sep, sept}
use Rattle.logic.specs.Table.{op_of, operand_of}
use Rattle.grammar.specs.Listing.{size_of}

-- every variable of the formula is at most v
unfoldable pub Within : ℕ → Form → Type 0
Within v (same x y) = (x ≤ v) × (y ≤ v)
Within v (diff x y) = (x ≤ v) × (y ≤ v)
Within v (pts x y) = (x ≤ v) × (y ≤ v)
Within v (ls x y) = (x ≤ v) × (y ≤ v)
Within v (conj a b) = Within v a × Within v b
Within v (disj a b) = Within v a × Within v b
Within v (but a b) = Within v a × Within v b
Within v (neg a) = Within v a
Within v (sep a b) = Within v a × Within v b
Within v (sept a b) = Within v a × Within v b

-- ---- the nodes in a table

-- node k of f is operator o over x and y
abbrev pub Node : List ℕ → ℕ → ℕ → ℕ → ℕ → Type 0
Node f k o x y = (op_of f k ≡ o) × (operand_of f k 0 ≡ x) × (operand_of f k 1 ≡ y)

-- operator o over two formulas whose nodes are P from k on, l of them, and Q behind them, m of them
abbrev pub Two : List ℕ → ℕ → ℕ → ℕ → ℕ → Type 0
Two f o k l m = Node f (k + l + m) o (k + l - 1) (k + l + m - 1)

-- f has the nodes of the formula, in order of completion, from node k on
unfoldable pub Has : List ℕ → ℕ → Form → Type 0
Has f k (same x y) = Node f k 1 x y
Has f k (diff x y) = Node f k 2 x y
Has f k (pts x y) = Node f k 3 x y
Has f k (ls x y) = Node f k 4 x y
Has f k (conj a b) = Has f k a × Has f (k + size_of a) b × Two f 5 k (size_of a) (size_of b)
Has f k (disj a b) = Has f k a × Has f (k + size_of a) b × Two f 6 k (size_of a) (size_of b)
Has f k (but a b) = Has f k a × Has f (k + size_of a) b × Two f 7 k (size_of a) (size_of b)
Has f k (neg a) = Has f k a × Node f (k + size_of a) 8 (k + size_of a - 1) 0
Has f k (sep a b) = Has f k a × Has f (k + size_of a) b × Two f 9 k (size_of a) (size_of b)
Has f k (sept a b) = Has f k a × Has f (k + size_of a) b × Two f 10 k (size_of a) (size_of b)
