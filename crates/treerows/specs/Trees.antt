-- The rows of two trees, one behind the other: the room for them, and that they were added. Assumes nothing: these are
-- definitions.
use Rattle.std.specs.Prelude.{◌≡◌, List, ◌++◌, ℕ, ◌+◌, ◌<◌}
use Rattle.logic.specs.declared.Profile.{Profile}
use Rattle.logic.specs.Formula.{Form}
use Rattle.rows.specs.declared.Next.{Next}
use Rattle.rows.specs.Row.{bytes_of}
use Rattle.rows.specs.Table.{arrays_in, sets_in, after, rows_in, rows_of}
use Rattle.rowbytes.specs.Written.{Puts, Space}

-- the rows of a and of b, over one array and two sets, were added; l is the row after a's
pub record Trees (π : Profile) (n : ℕ) (a b : Form) (A S T : ℕ) (s : Next) (l : ℕ) (t : Next) (o now : List ℕ) : Type 0 where
  pub first : l ≡ s.row + rows_in π n a
  pub puts : Puts s (rows_in π n a + rows_in π n b) (arrays_in a + arrays_in b) (sets_in a + sets_in b) (bytes_of (rows_of π n a A S s ++ rows_of π n b A T (after π n a s))) t o now

-- room for the rows of a and of b, and r more
pub record RoomTrees (π : Profile) (n : ℕ) (a b : Form) (s : Next) (r : ℕ) (o : List ℕ) : Type 0 where
  pub space : Space s (rows_in π n a + rows_in π n b + r) o
  pub array : s.array + (arrays_in a + arrays_in b) < 65536
  pub set : s.set + (sets_in a + sets_in b) < 65536
