-- What proofs/Examples speaks of. Assumes nothing: these are definitions.
use Rattle.std.specs.Prelude.{◌≡◌, List, ◌++◌, ℕ, ◌<◌, ◌≤◌, length, drop}
use Rattle.logic.specs.declared.Answer.{Answer}
use Rattle.logic.specs.Numbers.{answer, yes_number, output_length}
use Rattle.writing.specs.Writing.{Exports}

-- a book and its text
pub record Example : Type 0 where
  pub book : List ℕ
  pub text : List ℕ

-- every result that the export's statement allows, with room and without, is the example's
abbrev pub Right : Example → Type 0
Right w =
    (o : List ℕ) (a : Answer) (o' : List ℕ) → Exports w.book o a o'
    → (length w.text ≤ length o → (a ≡ answer yes_number 0) × (o' ≡ w.text ++ drop (length w.text) o))
    × (length o < length w.text → (a ≡ answer output_length 0) × (o' ≡ o))
