-- What proofs/TermLaws speaks of. Assumes nothing: these are definitions.
use Rattle.std.specs.Prelude.{ℕ, ◌≤◌}
use Rattle.grammar.specs.Phrase.{Term}
use Rattle.writing.specs.Writing.{variable}

-- a term that is one of the variables up to v, or nil
pub data Variable (v : ℕ) : Term → Type 0 where
  is_variable : (x : ℕ) → x ≤ v → Variable v (variable x)
