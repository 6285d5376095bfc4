-- What proofs/JudgeExamples speaks of. Assumes nothing: these are definitions.
use Rattle.std.specs.Prelude.{◌≡◌, Bool, List, ℕ, eqb}
use Rattle.logic.specs.declared.Profile.{Profile}
use Rattle.logic.specs.declared.Answer.{Answer}
use Rattle.logic.specs.Numbers.{yes_number, no_number}
use Rattle.logic.specs.Tests.{andb, pick}
use Rattle.logic.specs.Book.{vars_of, locs_of}
use Rattle.logic.specs.Model.{Judges}
use Rattle.logic.specs.Computed.{accepted, model_ok, fits_book}

-- a book, a model and the number that the judge gives back for them
pub record Judged : Type 0 where
  pub profile : Profile
  pub book : List ℕ
  pub model : List ℕ
  pub number : ℕ

-- every answer that the judge's statement allows has the example's number
abbrev pub JudgedRight : Judged → Type 0
JudgedRight w = (a : Answer) → Judges w.profile w.book w.model a → a.number ≡ w.number

-- the test of an example: the book is accepted, the model is in range, and the number is that of the computed truth
unfoldable pub judged_test : Judged → Bool
judged_test w =
    andb (andb (accepted w.book) (model_ok (vars_of w.book) (locs_of w.book) w.model))
    (eqb (pick (fits_book w.profile w.book w.model) yes_number no_number) w.number)
