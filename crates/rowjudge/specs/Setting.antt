-- What the judge of rows is given, and what it says of a node. Assumes nothing: these are definitions.
use Rattle.std.specs.Prelude.{◌≡◌, Bool, true, false, List, ℕ, ◌+◌, ◌*◌, ◌^◌, ◌<◌, ◌≤◌, length, get_or}
use Rattle.logic.specs.Formula.{Form}
use Rattle.logic.specs.Reflect.{Is}
use Rattle.logic.specs.Model.{stack_in}
use Rattle.logic.specs.Book.{most}
use Rattle.cells.specs.Cells.{cells, Barred}
use Rattle.rows.specs.Assignment.{Assignment, ValuesInRange}
use Rattle.rows.specs.Table.{arrays_in, sets_in}
use Rattle.rows.specs.Condition.{Condition}
use Rattle.rows.specs.Bounds.{most_arrays}
use Rattle.rows.specs.Assigned.{assigned}
use Rattle.arrays.specs.Unpacked.{Unpacked}
use Rattle.rowjudge.specs.declared.Setting.{Setting}
use Rattle.rowjudge.specs.declared.Told.{Told}
use Rattle.rowjudge.specs.declared.Pair.{Pair}

-- the assignment that is judged
abbrev pub given : Setting → List ℕ → Assignment
given g q = assigned g.v g.n g.arrays q

-- the setting is that of the assignment q, which is in range, and its arrays are unpacked
pub record Ready (g : Setting) (q : List ℕ) (arrays : List (List ℕ)) : Type 0 where
  pub few_vars : g.v ≤ most
  pub few_locs : g.n ≤ most
  pub few_arrays : g.arrays ≤ most_arrays
  pub base : g.base ≡ g.v + g.arrays * g.n
  pub long : length q ≡ g.base + g.sets
  pub within_range : ValuesInRange g.v g.n (given g q)
  pub set_low : (j : ℕ) → j < g.sets → get_or q (g.base + j) 0 < 2 ^ g.n
  pub unpacked : Unpacked g.v g.n g.arrays q arrays
  pub stack : cells g.stack ≡ stack_in g.v q
  pub barred : Barred g.profile g.v g.n (cells g.stack) g.barred

-- array A and set S are given, and there are as many as a formula makes, from i and j on
pub record Within (g : Setting) (F : Form) (A S i j : ℕ) : Type 0 where
  pub array : A < i
  pub set : S < j
  pub arrays : i + arrays_in F ≤ g.arrays
  pub sets : j + sets_in F ≤ g.sets

-- what is said of a formula, and the numbers after it
pub record Judged (g : Setting) (q : List ℕ) (F : Form) (A S i j : ℕ) (r : Told) : Type 0 where
  pub holds : Is r.holds (Condition g.profile g.v g.n (given g q) F A S i j)
  pub array : r.next.array ≡ i + arrays_in F
  pub set : r.next.set ≡ j + sets_in F

-- and of two, over one array and two sets
pub record JudgedBoth (g : Setting) (q : List ℕ) (a b : Form) (A S T i j : ℕ) (r : Pair) : Type 0 where
  pub first : Is r.first (Condition g.profile g.v g.n (given g q) a A S i j)
  pub second : Is r.second (Condition g.profile g.v g.n (given g q) b A T (i + arrays_in a) (j + sets_in a))
  pub array : r.next.array ≡ i + (arrays_in a + arrays_in b)
  pub set : r.next.set ≡ j + (sets_in a + sets_in b)

pub record WithinBoth (g : Setting) (a b : Form) (A S T i j : ℕ) : Type 0 where
  pub array : A < i
  pub first : S < j
  pub second : T < j
  pub arrays : i + (arrays_in a + arrays_in b) ≤ g.arrays
  pub sets : j + (sets_in a + sets_in b) ≤ g.sets

-- code tests Q after the test b, where b passes: h is what comes of both
abbrev pub Also : Bool → Type 0 → Bool → Type 0
Also b Q h = (b ≡ true → Is h Q) × (b ≡ false → h ≡ false)
