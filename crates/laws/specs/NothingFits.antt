-- What proofs/NothingFits speaks of. Assumes nothing: these are definitions.
use Rattle.std.specs.Prelude.{◌≡◌, List, ℕ}
use Rattle.logic.specs.declared.Profile.{Profile}
use Rattle.logic.specs.declared.Answer.{Answer}
use Rattle.logic.specs.Numbers.{answer, no_number}
use Rattle.logic.specs.Checks.{Passes}
use Rattle.logic.specs.Book.{vars_of, locs_of}
use Rattle.logic.specs.Model.{model_checks, Judges}

-- of every model in range, every answer that the judge may give is "doesn't fit"
abbrev pub NothingFits : Profile → List ℕ → Type 0
NothingFits π s = (m : List ℕ) (r : Answer) → Passes (model_checks (vars_of s) (locs_of s) m) → Judges π s m r → r ≡ answer no_number 0
