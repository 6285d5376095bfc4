-- The nodes of a formula in order of completion, and the book of a formula. Assumes nothing: these are definitions.
use Rattle.std.specs.Prelude.{List, [], ◌∷◌, ◌++◌, ℕ, ◌+◌, ◌-◌, ◌*◌}
use Rattle.logic.specs.Formula.{Form}
use Rattle.logic.specs.Book.{head_of}
use Rattle.logic.specs.Formula.Form.{same, diff, pts, ls, conj, disj, but, neg, sep, sept}

-- how many nodes a formula has
unfoldable pub size_of : Form → ℕ
size_of (same x y) = 1
size_of (diff x y) = 1
size_of (pts x y) = 1
size_of (ls x y) = 1
size_of (conj a b) = size_of a + size_of b + 1
size_of (disj a b) = size_of a + size_of b + 1
size_of (but a b) = size_of a + size_of b + 1
size_of (neg a) = size_of a + 1
size_of (sep a b) = size_of a + size_of b + 1
size_of (sept a b) = size_of a + size_of b + 1

-- the nodes of a, those of b behind them, and operator o over both; m is the node behind a's, n the one behind b's
abbrev pub both : ℕ → ℕ → ℕ → List ℕ → List ℕ → List ℕ
both o m n a b = a ++ (b ++ (o ∷ (m - 1) ∷ (n - 1) ∷ []))

-- "Nodes are numbered in order of completion, a's before b's.": the bytes of a formula's nodes, the first of which has number k
unfoldable pub listing : ℕ → Form → List ℕ
listing k (same x y) = 1 ∷ x ∷ y ∷ []
listing k (diff x y) = 2 ∷ x ∷ y ∷ []
listing k (pts x y) = 3 ∷ x ∷ y ∷ []
listing k (ls x y) = 4 ∷ x ∷ y ∷ []
listing k (conj a b) = both 5 (k + size_of a) (k + size_of a + size_of b) (listing k a) (listing (k + size_of a) b)
listing k (disj a b) = both 6 (k + size_of a) (k + size_of a + size_of b) (listing k a) (listing (k + size_of a) b)
listing k (but a b) = both 7 (k + size_of a) (k + size_of a + size_of b) (listing k a) (listing (k + size_of a) b)
listing k (neg a) = listing k a ++ (8 ∷ (k + size_of a - 1) ∷ 0 ∷ [])
listing k (sep a b) = both 9 (k + size_of a) (k + size_of a + size_of b) (listing k a) (listing (k + size_of a) b)
listing k (sept a b) = both 10 (k + size_of a) (k + size_of a + size_of b) (listing k a) (listing (k + size_of a) b)

-- the book of a formula
unfoldable pub book_of : ℕ → ℕ → ℕ → Form → List ℕ
book_of v n p F = head_of 2 v n p (3 * size_of F) ++ listing 0 F
