-- What proofs/PlaceLaws speaks of. Assumes nothing: these are definitions.
use Rattle.std.specs.Prelude.{List, [], ◌∷◌, ℕ}
use Rattle.grammar.specs.Grammar.{Event}
use Rattle.grammar.specs.Places.{finished_by}
use Rattle.grammar.specs.Machine.{item, Trace, run}

-- ---- what is finished where

-- each event is finished at a byte with P
unfoldable pub Each : (ℕ → Type 0) → List Event → Type 0
Each P [] = Unit {0}
Each P (e ∷ es) = P (finished_by e) × Each P es

module _ (s : List ℕ) where
  abbrev pub trace : Trace
  trace = run (item []) 0 s
