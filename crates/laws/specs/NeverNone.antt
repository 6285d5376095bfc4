-- What proofs/NeverNone speaks of. Assumes nothing: these are definitions.
use Rattle.std.specs.Prelude.{◌≡◌, List, ℕ}
use Rattle.logic.specs.declared.Profile.{Profile}
use Rattle.logic.specs.declared.Answer.{Answer}
use Rattle.logic.specs.Numbers.{yes_number, no_number}
use Rattle.logic.specs.Search.{Searches}

-- "found never becomes none" from the book s to the book t, whatever the budgets and the outputs
abbrev pub NeverNone : Profile → List ℕ → List ℕ → Type 0
NeverNone π s t =
    (b b' : ℕ) (o o' x x' : List ℕ) (a a' : Answer) → Searches π s b o a x → a.number ≡ yes_number → Searches π t b' o' a' x' → ¬ (a'.number ≡ no_number)
