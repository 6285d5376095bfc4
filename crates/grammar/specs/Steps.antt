-- What proofs/Steps speaks of. Assumes nothing: these are definitions.
use Rattle.std.specs.Prelude.{List, ◌∷◌}
use Rattle.grammar.specs.Phrase.{Word, joins, denies, relates}
use Rattle.grammar.specs.Machine.{Frame, only_one, first_of, start, Mode, item, arg}
use Rattle.std.specs.Prelude.{ℕ}
use Rattle.std.proofs.Math.ListN.{drop}
use Rattle.grammar.specs.Machine.{Trace, run}

-- what waits behind the word c
abbrev pub waits : Word → List Frame → Mode
waits (joins c) σ = item (first_of c ∷ σ)
waits denies σ = item (only_one ∷ σ)
waits (relates c) σ = arg (start c) σ

module _ (w : List ℕ) where
  -- what the text comes to from byte i on
  abbrev pub onward : Mode → ℕ → Trace
  onward m i = run m i (drop i w)
