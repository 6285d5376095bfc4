-- When a node holds: the truth that counts, in the words of document 01's table, over every heap, every part and every added
-- heap. Assumes nothing: these are definitions.
use Rattle.std.specs.Prelude.{◌≡◌, ◌⊎◌, ℕ, suc, ◌<◌, ◌≤◌}
use Rattle.logic.specs.declared.Profile.{Profile}
use Rattle.logic.specs.Heap.{Map, Heap, Allocated, Value, Disjoint, Parts, Empty}
use Rattle.logic.specs.Formula.{Form}
use Rattle.logic.specs.Formula.Form.{same, diff, pts, ls, conj, disj, but, neg, sep, sept}

-- "D is just x's location and its value is y's location"
pub record Points (a b : ℕ) (h : Map) : Type 0 where
  pub here : Value h a b
  pub only : (ℓ : ℕ) → Allocated h ℓ → ℓ ≡ a

-- "a chain of .. links from x to y, all locations on it different, and D is exactly those before the last": k links over the
-- locations at 0 to at k
pub record Chain (k a b : ℕ) (h : Map) : Type 0 where
  pub at : Map
  pub first : at 0 ≡ a
  pub last : at k ≡ b
  pub link : (i : ℕ) → i < k → Value h (at i) (at (suc i))
  pub different : (i j : ℕ) → i < j → j ≤ k → ¬ (at i ≡ at j)
  pub only : (ℓ : ℕ) → Allocated h ℓ → (i : ℕ) × (i < k) × (at i ≡ ℓ)

-- "x and y the same and h empty; or a chain of" links from x to y: "A list segment may now have any number of links"
abbrev pub Segment : ℕ → ℕ → Map → Type 0
Segment a b h = ((a ≡ b) × Empty h) ⊎ ((k : ℕ) × (1 ≤ k) × Chain k a b h)

-- n bounds the added heaps; s is the stack and h "the heap at the node"
module _ (π : Profile) (v n : ℕ) where
  unfoldable pub Holds : Form → Map → Map → Type 0
  Holds (same x y) s h = (s x ≡ s y) × Empty h
  Holds (diff x y) s h = (¬ (s x ≡ s y)) × Empty h
  Holds (pts x y) s h = Points (s x) (s y) h
  Holds (ls x y) s h = Segment (s x) (s y) h
  Holds (conj a b) s h = Holds a s h × Holds b s h
  Holds (disj a b) s h = Holds a s h ⊎ Holds b s h
  Holds (but a b) s h = Holds a s h × (¬ Holds b s h)
  Holds (neg a) s h = ¬ Holds a s h
  Holds (sep a b) s h = (g : Map) × (r : Map) × Parts g r h × Disjoint π v s g r × Holds a s g × Holds b s r
  Holds (sept a b) s h = (g : Map) × (u : Map) × Heap n g × Parts g h u × Disjoint π v s g h × Holds a s g × Holds b s u
