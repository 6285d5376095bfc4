-- The order of refusals: a list of parts, each with the number and the place that are given back where it is the first that
-- fails. Assumes nothing: these are definitions.
use Rattle.std.specs.Prelude.{◌≡◌, ◌⊎◌, ℕ, zero, suc}
use Rattle.logic.specs.declared.Answer.{Answer}
use Rattle.logic.specs.Numbers.{answer}

pub data Checks : Type 1 where
  done : Checks
  check : Type 0 → ℕ → ℕ → Checks → Checks

-- c's parts, then d's
unfoldable pub ◌then◌ : Checks → Checks → Checks
◌then◌ done d = d
◌then◌ (check P m q c) d = check P m q (◌then◌ c d)

infixr 40 ◌then◌
-- the parts of 0, then those of 1, .., up to those of k - 1
unfoldable pub upto : (ℕ → Checks) → ℕ → Checks
upto f zero = done
upto f (suc k) = upto f k then f k

-- every part holds
unfoldable pub Passes : Checks → Type 0
Passes done = Unit {0}
Passes (check P m q c) = P × Passes c

-- a is the refusal of the first part that fails; where every part holds, a is as `rest` says
unfoldable pub Answers : Checks → (Answer → Type 0) → Answer → Type 0
Answers done rest a = rest a
Answers (check P m q c) rest a = ((¬ P) × (a ≡ answer m q)) ⊎ (P × Answers c rest a)
