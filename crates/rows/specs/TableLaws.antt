-- What proofs/TableLaws speaks of. Assumes nothing: these are definitions.
use Rattle.std.specs.Prelude.{◌≡◌, List, ℕ, ◌+◌, ◌<◌, length, get_or}
use Rattle.rows.specs.Row.{Row}
use Rattle.rows.specs.Row.Row.{EQ}

-- rows xs stand in the table rs from row r on
abbrev pub Here : List Row → ℕ → List Row → Type 0
Here rs r xs = (i : ℕ) → i < length xs → get_or rs (r + i) (EQ 0 0) ≡ get_or xs i (EQ 0 0)
