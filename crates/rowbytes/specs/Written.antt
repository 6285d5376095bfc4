-- What is written: bytes at a place, rows from a number on, and the room for them. Assumes nothing: these are definitions.
use Rattle.std.specs.Prelude.{◌≡◌, List, ◌++◌, ℕ, ◌+◌, ◌*◌, ◌<◌, ◌≤◌, length, take, drop}
use Rattle.rows.specs.declared.Next.{Next}
use Rattle.rows.specs.Table.{moved}
use Rattle.rowbytes.specs.declared.Writer.{Writer}

-- bytes at a place of the output, the rest as it was
unfoldable pub put : ℕ → List ℕ → List ℕ → List ℕ
put at bs o = take at o ++ bs ++ drop (at + length bs) o

-- from the numbers s on, r rows with the bytes bs, i arrays and j sets were added; the output was o
pub record Puts (s : Next) (r i j : ℕ) (bs : List ℕ) (t : Next) (o now : List ℕ) : Type 0 where
  pub numbers : t ≡ moved s r i j
  pub bytes : now ≡ put (10 * s.row) bs o

-- room for r rows behind row s .row, and numbers that two bytes hold
pub record Space (s : Next) (r : ℕ) (o : List ℕ) : Type 0 where
  pub out : 10 * (s.row + r) ≤ length o
  pub row : s.row + r < 65536

-- the writer u has the output of the writer w, and as many bytes of it
pub record Kept (w u : Writer) : Type 0 where
  pub same : u.out.ghost_name ≡ w.out.ghost_name
  pub long : length u.out.now ≡ length w.out.now
