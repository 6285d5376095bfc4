-- Formulas. Assumes nothing: these are definitions.
use Rattle.std.specs.Prelude.{ℕ}

-- "1 to 4 atoms", over variables: x = y, x ≠ y, x ↦ y, ls(x,y); "5 to 10 connectives": a and b, a or b, a and not b, not a,
-- a * b, a −⊛ b
pub data Form : Type 0 where
  same diff pts ls : ℕ → ℕ → Form
  conj disj but : Form → Form → Form
  neg : Form → Form
  sep sept : Form → Form → Form
