-- What proofs/Examples speaks of. Assumes nothing: these are definitions.
use Rattle.std.specs.Prelude.{◌≡◌, ℕ, ◌≤◌}
use mathlib.Core.List.{List, ◌++◌}
use Rattle.std.proofs.Math.ListN.{length, drop}
use Rattle.logic.specs.declared.Answer.{Answer}
use Rattle.logic.specs.Numbers.{answer}
use Rattle.grammar.specs.Import.{Imports}

-- a text, n and p, and what the import gives back: its number, its place, and the bytes that it writes
pub record Example : Type 0 where
  pub text : List ℕ
  pub n : ℕ
  pub p : ℕ
  pub number : ℕ
  pub place : ℕ
  pub book : List ℕ

-- every result that the import's statement allows, over any output with room, is the example's
abbrev pub Right : Example → Type 0
Right w =
    (o : List ℕ) (a : Answer) (o' : List ℕ) → length w.book ≤ length o → Imports w.text w.n w.p o a o'
    → (a ≡ answer w.number w.place) × (o' ≡ w.book ++ drop (length w.book) o)
