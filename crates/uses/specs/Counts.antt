-- The counts of parents, t at first and u after. Assumes nothing: these are definitions.
use Rattle.std.specs.Prelude.{◌≡◌, List, ℕ, ◌+◌, eqb, get_or}
use Rattle.logic.specs.Tests.{pick}
use Rattle.logic.specs.Table.{uses_on}

-- x is counted once more, and nothing else is
abbrev pub OneMore : List ℕ → ℕ → List ℕ → Type 0
OneMore t x u = (k : ℕ) → get_or u k 0 ≡ get_or t k 0 + pick (eqb x k) 1 0

-- what node j uses is counted, and nothing else is
abbrev pub NodeMore : List ℕ → ℕ → List ℕ → List ℕ → Type 0
NodeMore f j t u = (k : ℕ) → get_or u k 0 ≡ get_or t k 0 + (uses_on f j k 0 + uses_on f j k 1)
