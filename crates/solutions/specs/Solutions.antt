-- What proofs/Solutions speaks of. Assumes nothing: these are definitions.
use Rattle.std.specs.Prelude.{◌≡◌, List, ℕ}
use Rattle.logic.specs.declared.Profile.{Profile}
use Rattle.logic.specs.Numbers.{answer}
use Rattle.rows.specs.Assigned.{Assigns}
use Rattle.solutions.specs.ModelOf.{model_in}

-- (b) every model that fits a book that can be encoded comes from an assignment that satisfies the table of the book and has exactly
-- that model
pub record Comes (π : Profile) (s m : List ℕ) : Type 0 where
  pub bytes : List ℕ
  pub satisfies : Assigns π s bytes (answer 0 0)
  pub model : model_in s bytes ≡ m
