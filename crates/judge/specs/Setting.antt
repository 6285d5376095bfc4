-- What the judge's core is given, and what its functions say of their results. Assumes nothing: these are definitions.
use Rattle.std.specs.Prelude.{◌≡◌, Bool, true, false, ◌⊎◌, List, ℕ, suc, ◌<◌, ◌≤◌, Option, None, Some as some}
use Rattle.logic.specs.declared.Profile.{Profile}
use Rattle.logic.specs.Heap.{Map, Stack, Heap, Disjoint}
use Rattle.logic.specs.Formula.{Form}
use Rattle.logic.specs.Table.{op_of, operand_of, Sound, tree}
use Rattle.logic.specs.Book.{most_nodes, most as most_listed}
use Rattle.logic.specs.Tests.{in_part, union, sep_at}
use Rattle.logic.specs.Truth.{truth}
use Rattle.logic.specs.Reflect.{Is}
use Rattle.pairs.specs.Pairs.{part_at, Inside}
use Rattle.judge.specs.declared.Setting.{Setting}
use Rattle.cells.specs.Cells.{most, cells, Sub, Barred, Touches, Met}

-- a setting b is the same for every node: v, n, p, the packed stack, the set of the locations where two pieces may not meet, and
-- the profile; and this is its stack
abbrev pub stack_of : Setting → Map
stack_of b = cells b.stack

-- as many nodes as a table has room for
abbrev pub room : ℕ
room = most_nodes

-- node k of table f can be judged in setting b: the nodes up to it are as they should be, and the setting is right
pub record Ready (f : List ℕ) (b : Setting) (k : ℕ) : Type 0 where
  pub inside : k < room
  pub sound : Sound b.vars f (suc k)
  pub few_vars : b.vars ≤ most
  pub few_locs : b.locs ≤ most
  pub listed : b.locs ≤ most_listed
  pub stack : Stack b.vars b.locs (stack_of b)
  pub barred : Barred b.profile b.vars b.locs (stack_of b) b.barred

-- and it is a connective, whose children are lower nodes
pub record Joined (f : List ℕ) (b : Setting) (k : ℕ) : Type 0 where
  pub ready : Ready f b k
  pub operator : 5 ≤ op_of f k

-- the truth of a formula, and of node k, in setting b
abbrev pub truth_of : Setting → Form → Map → Bool
truth_of b F h = truth b.profile b.vars b.locs F (stack_of b) h

abbrev pub truth_at : List ℕ → Setting → ℕ → Map → Bool
truth_at f b k h = truth_of b (tree f k) h

-- and of its children
abbrev pub first_at : List ℕ → Setting → ℕ → Map → Bool
first_at f b k h = truth_at f b (operand_of f k 0) h

abbrev pub second_at : List ℕ → Setting → ℕ → Map → Bool
second_at f b k h = truth_at f b (operand_of f k 1) h

-- part m of the heap w serves for node k's first child, and the rest for its second
abbrev pub serves_at : List ℕ → Setting → ℕ → ℕ → ℕ → Bool
serves_at f b k w m = sep_at b.profile b.vars b.locs (stack_of b) (cells w) (first_at f b k) (second_at f b k) m

-- r is the lowest number below k that passes F, or none does
pub data Chosen (F : ℕ → Bool) (k : ℕ) (r : Option ℕ) : Type 0 where
  lowest : (m : ℕ) → r ≡ some m → m < k → F m ≡ true → ((i : ℕ) → i < m → F i ≡ false) → Chosen F k r
  nothing : r ≡ None → ((i : ℕ) → i < k → F i ≡ false) → Chosen F k r

-- the heap z serves as the one that is added to h: it passes A, and the two together pass B
pub record Serves (π : Profile) (v n : ℕ) (s : Map) (A B : Map → Bool) (h z : Map) : Type 0 where
  pub heap : Heap n z
  pub apart : Disjoint π v s z h
  pub added : A z ≡ true
  pub whole : B (union z h) ≡ true

-- z and g are the same above location l
abbrev pub Above : ℕ → Map → Map → Type 0
Above l z g = (ℓ : ℕ) → l < ℓ → z ℓ ≡ g ℓ

-- some heap serves that is y above location l
abbrev pub Some : Profile → ℕ → ℕ → Map → (Map → Bool) → (Map → Bool) → Map → ℕ → Map → Type 0
Some π v n s A B h l y = (z : Map) × Serves π v n s A B h z × Above l z y

-- and has digit d at l
abbrev pub SomeAt : Profile → ℕ → ℕ → Map → (Map → Bool) → (Map → Bool) → Map → ℕ → Map → ℕ → Type 0
SomeAt π v n s A B h l y d = (z : Map) × Serves π v n s A B h z × Above l z y × (z l ≡ d)

-- r says whether some heap that is g above location l serves for node k's children, with the heap w
abbrev pub Found : List ℕ → Setting → ℕ → ℕ → ℕ → ℕ → Bool → Type 0
Found f b k w l g r = Is r (Some b.profile b.vars b.locs (stack_of b) (first_at f b k) (second_at f b k) (cells w) l (cells g))

abbrev pub FoundAt : List ℕ → Setting → ℕ → ℕ → ℕ → ℕ → ℕ → Bool → Type 0
FoundAt f b k w l g d r = Is r (SomeAt b.profile b.vars b.locs (stack_of b) (first_at f b k) (second_at f b k) (cells w) l (cells g) d)

-- g is filled above location l: it has nothing up to l, nothing where w has a cell, and touches none of met, which are the
-- barred locations of w
pub record Filled (n u w met l g : ℕ) : Type 0 where
  pub up_to : l ≤ n
  pub heap : Heap n (cells g)
  pub below : (ℓ : ℕ) → ℓ ≤ l → cells g ℓ ≡ 0
  pub free : (ℓ : ℕ) → (cells g ℓ ≡ 0) ⊎ (cells w ℓ ≡ 0)
  pub quiet : (ℓ j : ℕ) → Touches ℓ (cells g ℓ) j → ¬ (in_part met j ≡ true)
  pub meets : Met u w met

-- no heap that serves, and is y above location l, has a digit below d at l
abbrev pub Tried : Profile → ℕ → ℕ → Map → (Map → Bool) → (Map → Bool) → Map → ℕ → Map → ℕ → Type 0
Tried π v n s A B h l y d = (z : Map) → Serves π v n s A B h z → Above l z y → ¬ (z l < d)

-- the trial of parts is at m: it is a subset of the allocated set a, and every lower part fails
pub record Trying (F : ℕ → Bool) (a m : ℕ) : Type 0 where
  pub sub : Sub m a
  pub failed : (i : ℕ) → i < m → F i ≡ false

-- the walk along the table t is at place i of the stretch of a, and the trial at the part that stands there
pub record Walking (t : List ℕ) (F : ℕ → Bool) (a i : ℕ) : Type 0 where
  pub inside : Inside t i a
  pub trying : Trying F a (part_at t i)
