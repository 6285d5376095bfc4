-- A table whose variables have names, for the code that writes them. Assumes nothing: these are definitions.
use Rattle.std.specs.Prelude.{List, ℕ, ◌≤◌}
use Rattle.logic.specs.Book.{most, Known}

-- an accepted table, whose variables have names of two bytes
abbrev pub NamedTable : List ℕ → Type 0
NamedTable f = (v : ℕ) × (Known v f × (v ≤ most))
