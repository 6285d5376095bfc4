-- A formula's rows: the room for them, and that they were added. Assumes nothing: these are definitions.
use Rattle.std.specs.Prelude.{List, ℕ, ◌+◌, ◌<◌}
use Rattle.logic.specs.declared.Profile.{Profile}
use Rattle.logic.specs.Formula.{Form}
use Rattle.rows.specs.declared.Next.{Next}
use Rattle.rows.specs.Row.{bytes_of}
use Rattle.rows.specs.Table.{arrays_in, sets_in, rows_in, rows_of}
use Rattle.rowbytes.specs.Written.{Puts, Space}

-- room for the rows of a formula
pub record Room (π : Profile) (n : ℕ) (F : Form) (s : Next) (o : List ℕ) : Type 0 where
  pub space : Space s (rows_in π n F) o
  pub array : s.array + arrays_in F < 65536
  pub set : s.set + sets_in F < 65536

-- the rows of F over array A and set S were added
abbrev pub Encoded : Profile → ℕ → Form → ℕ → ℕ → Next → Next → List ℕ → List ℕ → Type 0
Encoded π n F A S s t o now = Puts s (rows_in π n F) (arrays_in F) (sets_in F) (bytes_of (rows_of π n F A S s)) t o now
