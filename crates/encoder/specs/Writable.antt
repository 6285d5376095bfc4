-- What the encoder writes a book from. Assumes nothing: these are definitions.
use Rattle.std.specs.Prelude.{◌≡◌, List, ℕ, ◌+◌, ◌*◌, ◌<◌, ◌≤◌, length}
use Rattle.logic.specs.declared.Profile.{Profile}
use Rattle.logic.specs.Formula.{Form}
use Rattle.logic.specs.Table.{tree}
use Rattle.logic.specs.Book.{most, root, KnownTable}
use Rattle.rows.specs.Table.{start, arrays, sets, rows_in}
use Rattle.rowbytes.specs.Written.{Space}

-- room for the rows of a formula, LONG and its AND, and numbers that two bytes hold
pub record RoomTable (π : Profile) (n : ℕ) (F : Form) (o : List ℕ) : Type 0 where
  pub space : Space start (rows_in π n F + 2) o
  pub array : arrays F < 65536
  pub set : sets F < 65536

-- what `write` is given: a formula of so many rows, and room for its book
pub record Writable (π : Profile) (f : List ℕ) (n r : ℕ) (o : List ℕ) : Type 0 where
  pub known : KnownTable f
  pub locs : n ≤ most
  pub rows : r ≡ rows_in π n (tree f (root f)) + 2
  pub out : 14 + 10 * r ≤ length o
