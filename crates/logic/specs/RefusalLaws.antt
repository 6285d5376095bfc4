-- What proofs/RefusalLaws speaks of. Assumes nothing: these are definitions.
use Rattle.std.specs.Prelude.{List}
use Prim.Native.Nat.{ℕ, ◌≤◌}
use Rattle.logic.specs.declared.Profile.{Profile}
use Rattle.logic.specs.declared.Answer.{Answer}
use Rattle.logic.specs.Checks.{Checks, done, check, Passes}
use Rattle.logic.specs.Book.{Accepted}
use Rattle.logic.specs.Search.{FitsAt, total_of, Outcome, search_rest}

-- the refusals of c have numbers from k on
unfoldable pub From : ℕ → Checks → Type 0
From k done = Unit {0}
From k (check P m q c) = (k ≤ m) × From k c

-- what a search that is not refused says
pub record Answered (π : Profile) (s : List ℕ) (b : ℕ) (o : List ℕ) (a : Answer) : Type 0 where
  pub accepted : Accepted s
  pub rest : Passes (search_rest s o)
  pub outcome : Outcome (FitsAt π s) (total_of s) b a
