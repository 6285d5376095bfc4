-- What the last row of a formula's rows says, worked out over the tree instead of over row numbers: it holds exactly where
-- this condition does (specs/LastRow.antt). Assumes nothing: these are definitions.
use Rattle.std.specs.Prelude.{◌≡◌, ◌⊎◌, ℕ, ◌+◌, ◌≤◌}
use Rattle.logic.specs.declared.Profile.{Profile}
use Rattle.logic.specs.Formula.{Form}
use Rattle.logic.specs.Formula.Form.{same, diff, pts, ls, conj, disj, but, neg, sep, sept}
use Rattle.rows.specs.Assignment.{Assignment}
use Rattle.rows.specs.Meaning.{NoMember, Just, Holding, Links, Splits, Apart, Same}
use Rattle.rows.specs.Table.{arrays_in, sets_in}

-- over array A and set S, with new arrays from number i and new sets from number j on
module _ (π : Profile) (v n : ℕ) (ν : Assignment) where
  unfoldable pub Condition : Form → ℕ → ℕ → ℕ → ℕ → Type 0
  Condition (same x y) A S i j = (ν.stack x ≡ ν.stack y) × NoMember (ν.set S)
  Condition (diff x y) A S i j = (¬ (ν.stack x ≡ ν.stack y)) × NoMember (ν.set S)
  Condition (pts x y) A S i j = Just (ν.set S) (ν.stack x) × Holding (ν.array A) (ν.stack x) (ν.stack y)
  Condition (ls x y) A S i j = (k : ℕ) × (k ≤ n) × Links (ν.array A) (ν.set S) (ν.stack x) (ν.stack y) k
  Condition (conj a b) A S i j = Condition a A S i j × Condition b A S (i + arrays_in a) (j + sets_in a)
  Condition (disj a b) A S i j = Condition a A S i j ⊎ Condition b A S (i + arrays_in a) (j + sets_in a)
  Condition (but a b) A S i j = Condition a A S i j × (¬ Condition b A S (i + arrays_in a) (j + sets_in a))
  Condition (neg a) A S i j = ¬ Condition a A S i j
  Condition (sep a b) A S i j =
      ((Condition a A j i (j + 2) × Condition b A (j + 1) (i + arrays_in a) (j + 2 + sets_in a))
      × Splits (ν.set S) (ν.set j) (ν.set (j + 1)))
      × Apart π v ν.stack (ν.array A) (ν.set j) (ν.set (j + 1))
  Condition (sept a b) A S i j =
      (((Condition a i j (i + 1) (j + 2) × Condition b i (j + 1) (i + 1 + arrays_in a) (j + 2 + sets_in a))
      × Splits (ν.set (j + 1)) (ν.set j) (ν.set S))
      × Apart π v ν.stack (ν.array i) (ν.set j) (ν.set S))
      × Same (ν.array A) (ν.array i) (ν.set S)
