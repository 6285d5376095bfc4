-- A book with a larger path bound, and a book and a model with more locations. Assumes nothing: these are definitions.
use Rattle.std.specs.Prelude.{◌≡◌, List, ◌++◌, ℕ, ◌-◌, ◌≤◌, replicate}
use Rattle.logic.specs.Book.{vars_of, locs_of, path_of, formula_of}

-- the book t has the variables and the formula of s, at least as many locations, and at least its path bound
pub record Wider (s t : List ℕ) : Type 0 where
  pub vars : vars_of s ≡ vars_of t
  pub path : path_of s ≤ path_of t
  pub formula : formula_of s ≡ formula_of t
  pub locs : locs_of s ≤ locs_of t

-- the book t is s with at least its path bound
pub record Longer (s t : List ℕ) : Type 0 where
  pub vars : vars_of s ≡ vars_of t
  pub locs : locs_of s ≡ locs_of t
  pub formula : formula_of s ≡ formula_of t
  pub path : path_of s ≤ path_of t

-- the model m of n locations with n' of them, "the new locations unallocated"
abbrev pub widened : ℕ → ℕ → List ℕ → List ℕ
widened n n' m = m ++ replicate (n' - n) 255
