-- What each row means over an assignment, and when a table is satisfied. Assumes nothing: these are definitions.
use Rattle.std.specs.Prelude.{◌≡◌, Bool, true, false, List, ◌⊎◌, ◌↔◌, ℕ, zero, suc, ◌-◌, ◌<◌, ◌≤◌, eqb, length, get_or}
use Rattle.logic.specs.declared.Profile.{Profile}
use Rattle.logic.specs.declared.Profile.TheVariants.{Strong}
use Rattle.logic.specs.Heap.{Map, MayMeet}
use Rattle.logic.specs.Paths.{NoLongPath}
use Rattle.rows.specs.Assignment.{Set, Member, Assignment, on}
use Rattle.rows.specs.Row.{Row}
use Rattle.rows.specs.Row.Row.{EQ, NE, EMPTY, ONE, AT, CHAIN, AND, OR, NOT, SPLIT, APART, SAME, LONG}

-- "S is empty"
abbrev pub NoMember : Set → Type 0
NoMember S = (ℓ : ℕ) → ¬ Member S ℓ

-- "S is just x's location, not nil"; a is x's location
pub record Just (S : Set) (a : ℕ) : Type 0 where
  pub not_nil : ¬ (a ≡ 0)
  pub just : (ℓ : ℕ) → Member S ℓ ↔ (ℓ ≡ a)

-- "x is not nil and A at x is y"; a and b are the locations of x and y
abbrev pub Holding : Map → ℕ → ℕ → Type 0
Holding A a b = (¬ (a ≡ 0)) × (A a ≡ b)

-- "exactly k links, all k+1 locations different, S is the first k, nil not among them": from a to b, over the locations at 0 to
-- at k
pub record Links (A : Map) (S : Set) (a b k : ℕ) : Type 0 where
  pub at : Map
  pub first : at 0 ≡ a
  pub last : at k ≡ b
  pub link : (i : ℕ) → i < k → A (at i) ≡ at (suc i)
  pub different : (i j : ℕ) → i < j → j ≤ k → ¬ (at i ≡ at j)
  pub members : (ℓ : ℕ) → Member S ℓ ↔ ((i : ℕ) × (i < k) × (at i ≡ ℓ))
  pub not_nil : (i : ℕ) → i < k → ¬ (at i ≡ 0)

-- "S1, S2 have no common member and make S"
pub record Splits (S S1 S2 : Set) : Type 0 where
  pub alone : (ℓ : ℕ) → ¬ (Member S1 ℓ × Member S2 ℓ)
  pub make : (ℓ : ℕ) → Member S ℓ ↔ (Member S1 ℓ ⊎ Member S2 ℓ)

-- "the image of a set is all values at its locations and no others"
abbrev pub Image : Map → Set → ℕ → Type 0
Image A S ℓ = (j : ℕ) × Member S j × (A j ≡ ℓ)

-- "S1 with its values"
abbrev pub WithValues : Map → Set → ℕ → Type 0
WithValues A S ℓ = Member S ℓ ⊎ Image A S ℓ

-- "each location in both of S1 with its values and S2 with its values is named"
abbrev pub Apart : Profile → ℕ → Map → Map → Set → Set → Type 0
Apart π v s A S1 S2 = (ℓ : ℕ) → WithValues A S1 ℓ → WithValues A S2 ℓ → MayMeet π v s ℓ

-- "A and B agree on S"
abbrev pub Same : Map → Map → Set → Type 0
Same A B S = (ℓ : ℕ) → Member S ℓ → A ℓ ≡ B ℓ

-- "array A on set S has no simple path over k links"
abbrev pub Short : Map → Set → ℕ → Type 0
Short A S k = NoLongPath k (on A S)

abbrev pub pick_type : Bool → Type 0 → Type 0 → Type 0
pick_type true P Q = P
pick_type false P Q = Q

module _ (v : ℕ) (ν : Assignment) where
  -- document 01's table of rows, and document 02's LONG; T r says that row r holds
  unfoldable pub Means : (ℕ → Type 0) → Row → Type 0
  Means T (EQ x y) = ν.stack x ≡ ν.stack y
  Means T (NE x y) = ¬ (ν.stack x ≡ ν.stack y)
  Means T (EMPTY S) = NoMember (ν.set S)
  Means T (ONE S x) = Just (ν.set S) (ν.stack x)
  Means T (AT A x y) = Holding (ν.array A) (ν.stack x) (ν.stack y)
  Means T (CHAIN A S x y k) = Links (ν.array A) (ν.set S) (ν.stack x) (ν.stack y) k
  Means T (AND r q) = T r × T q
  Means T (OR r q) = T r ⊎ T q
  Means T (NOT r) = ¬ T r
  Means T (SPLIT S S1 S2) = Splits (ν.set S) (ν.set S1) (ν.set S2)
  Means T (APART A S1 S2) = Apart Strong v ν.stack (ν.array A) (ν.set S1) (ν.set S2)
  Means T (SAME A B S) = Same (ν.array A) (ν.array B) (ν.set S)
  Means T (LONG A S k) = Short (ν.array A) (ν.set S) k

  -- row k is one of the first d and holds: "row numbers start at 0", and a row is over rows before it
  unfoldable pub HoldsBefore : List Row → ℕ → ℕ → Type 0
  HoldsBefore rs zero k = ⊥
  HoldsBefore rs (suc d) k =
      let earlier = HoldsBefore rs d k in
      pick_type (eqb k d) (Means (HoldsBefore rs d) (get_or rs d (EQ 0 0))) earlier

  abbrev pub RowHolds : List Row → ℕ → Type 0
  RowHolds rs k = HoldsBefore rs (suc k) k

  -- "It satisfies the table when the last row holds."
  abbrev pub Satisfies : List Row → Type 0
  Satisfies rs = RowHolds rs (length rs - 1)
