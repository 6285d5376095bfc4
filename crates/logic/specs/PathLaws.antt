-- What proofs/PathLaws speaks of. Assumes nothing: these are definitions.
use Rattle.std.specs.Prelude.{◌≡◌, eqb}
use Prim.Native.Nat.{ℕ, zero, suc, ◌+◌}
use Rattle.logic.specs.Heap.{Map}
use Rattle.logic.specs.Paths.{Path}
use Rattle.logic.specs.Tests.{pick}

-- how many of the locations 1 to n are allocated
abbrev pub one : ℕ → ℕ
one x = pick (eqb x 0) 0 1

unfoldable pub size : ℕ → Map → ℕ
size zero h = 0
size (suc n) h = size n h + one (h (suc n))

-- k links from a, all locations different
pub record PathFrom (k a : ℕ) (h : Map) : Type 0 where
  pub path : Path k h
  pub first : path.at 0 ≡ a
