-- The hunt for the lowest fit through a range of candidates, and ranges that make up a larger one. Assumes nothing: these are
-- definitions.
use Rattle.std.specs.Prelude.{◌≡◌, Bool, true, false, List, [], ◌∷◌, ℕ, ◌<◌, ◌≤◌, ltb}
use Rattle.logic.specs.Tests.{pick}
use Rattle.logic.specs.Search.{Lowest}

-- "the lowest fit of all is not in the range": of t candidates those that fit are those of P, and the range goes from `from` to
-- the number before `to`
abbrev pub Passed : (ℕ → Type 0) → ℕ → ℕ → ℕ → Type 0
Passed P t from to = (c : ℕ) → from ≤ c → c < to → ¬ Lowest P t c

-- what a hunt through a range gives back: the number of a candidate, or nothing
pub data Reply : Type 0 where
  nothing : Reply
  numbered : ℕ → Reply

-- "a candidate of the range that fits, and the lowest fit of all is not in the range before it"
pub record FitInRange (P : ℕ → Type 0) (t from to k : ℕ) : Type 0 where
  pub from_on : from ≤ k
  pub before : k < to
  pub candidate : k < t
  pub fits : P k
  pub passed : Passed P t from k

-- "it gives back a candidate of the range that fits, ..; or the lowest fit of all is not in the range"
unfoldable pub Gives : (ℕ → Type 0) → ℕ → ℕ → ℕ → Reply → Type 0
Gives P t from to nothing = Passed P t from to
Gives P t from to (numbered k) = FitInRange P t from to k

-- what code gives back: whether there is a candidate, and its number if so
abbrev pub reply_of : Bool → ℕ → Reply
reply_of true k = numbered k
reply_of false k = nothing

-- the lower of two replies, and the lowest of many: "none if no piece has one"
unfoldable pub lower_of : Reply → Reply → Reply
lower_of nothing y = y
lower_of (numbered k) nothing = numbered k
lower_of (numbered k) (numbered j) = numbered (pick (ltb k j) k j)

unfoldable pub lowest_of : List Reply → Reply
lowest_of [] = nothing
lowest_of (x ∷ xs) = lower_of x (lowest_of xs)

-- what the pieces of a range give back, "cut anywhere": each piece ends where the next one starts
unfoldable pub Pieces : (ℕ → Type 0) → ℕ → ℕ → ℕ → List Reply → Type 0
Pieces P t from to [] = from ≡ to
Pieces P t from to (x ∷ xs) = (cut : ℕ) × (from ≤ cut) × Gives P t from cut x × Pieces P t cut to xs
