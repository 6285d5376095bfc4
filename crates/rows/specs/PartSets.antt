-- What proofs/PartSets speaks of. Assumes nothing: these are definitions.
use Rattle.std.specs.Prelude.{◌↔◌}
use Prim.Native.Nat.{ℕ}
use Rattle.logic.specs.Heap.{Map, Allocated}
use Rattle.rows.specs.Assignment.{Set, Member}

-- a set has just the allocated locations of a heap
abbrev pub Domain : Set → Map → Type 0
Domain S h = (ℓ : ℕ) → Member S ℓ ↔ Allocated h ℓ
