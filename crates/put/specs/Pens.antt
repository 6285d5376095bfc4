-- Bytes written by a pen, as every writer states it. Assumes nothing: these are definitions.
use Rattle.std.specs.Prelude.{◌≡◌, List, ℕ}
use Rattle.put.specs.declared.Pen.{Pen}
use Rattle.put.specs.Puts.{Room, Puts}

-- the pen's output has room for the bytes from its place on
abbrev pub Space : Pen → List ℕ → Type 0
Space p bytes = Room p.at bytes p.out.now

-- the pen p, with the bytes written, is q: it writes to the same output, and stands behind the bytes
pub record Writes (p : Pen) (bytes : List ℕ) (q : Pen) : Type 0 where
  pub puts : Puts p.at bytes p.out.now q.out.now q.at
  pub same : q.out.ghost_name ≡ p.out.ghost_name
