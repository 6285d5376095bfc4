-- Bytes written into an output from a place on, as every writer states it. Assumes nothing: these are definitions.
use Rattle.std.specs.Prelude.{◌≡◌, List, ◌++◌, ℕ, ◌+◌, ◌≤◌, length, take, drop}

-- the output has room for the bytes from `at` on
abbrev pub Room : ℕ → List ℕ → List ℕ → Type 0
Room at bytes out = at + length bytes ≤ length out

-- the bytes stand in the output from `at` on, nothing else has changed, and `next` is the place after them
pub record Puts (at : ℕ) (bytes out out' : List ℕ) (next : ℕ) : Type 0 where
  pub room : Room at bytes out
  pub wrote : out' ≡ take at out ++ bytes ++ drop (at + length bytes) out
  pub after : next ≡ at + length bytes
