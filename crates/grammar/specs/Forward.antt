-- What proofs/Forward speaks of. Assumes nothing: these are definitions.
use Rattle.std.specs.Prelude.{Bool}
use Rattle.std.proofs.Math.Bool.{true, false}
use Rattle.grammar.specs.Phrase.{Phrase, emp, join, deny, relate}
use Rattle.std.specs.Prelude.{◌≡◌, ◌⊎◌}
use mathlib.Core.List.{List}
use Prim.Native.Nat.{ℕ}
use Rattle.grammar.specs.Grammar.{blank, Byte}
use Rattle.grammar.specs.Machine.{Spot, start, later}

-- a formula ends in a letter
abbrev pub lettered : Phrase → Bool
lettered emp = true
lettered (join c F G) = false
lettered (deny F) = false
lettered (relate c x y) = false

module _ (w : List ℕ) where
  -- what may stand behind a term
  abbrev pub Behind : Spot → ℕ → Type 0
  Behind (start c) i = (b : ℕ) × (blank b ≡ true) × Byte w b i
  Behind (later c y) i = ((b : ℕ) × (blank b ≡ true) × Byte w b i) ⊎ Byte w 41 i
