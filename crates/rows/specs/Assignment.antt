-- Assignments to the arrays and sets of a table. Assumes nothing: these are definitions.
use Rattle.std.specs.Prelude.{◌≡◌, Bool, true, false, ◌⊎◌, ℕ, suc, ◌<◌, ◌≤◌}
use Rattle.logic.specs.Heap.{Map, Stack}
use Rattle.logic.specs.Tests.{pick}

-- a set says of each location whether it is a member
abbrev pub Set : Type 0
Set = ℕ → Bool

abbrev pub Member : Set → ℕ → Type 0
Member S ℓ = S ℓ ≡ true

-- "An assignment is v location bytes, n value bytes (0 to n) for each array, one byte for each set": the stack, each array's
-- value at each location, each set's members
pub record Assignment : Type 0 where
  pub stack : Map
  pub array : ℕ → Map
  pub set : ℕ → Set

-- values are "0 to n", at locations 1 to n alone; members are locations from 1 to n
pub record ValuesInRange (v n : ℕ) (ν : Assignment) : Type 0 where
  pub stack : Stack v n ν.stack
  pub low : (i ℓ : ℕ) → ν.array i ℓ ≤ n
  pub alone : (i ℓ : ℕ) → (ℓ ≡ 0) ⊎ (n < ℓ) → ν.array i ℓ ≡ 0
  pub nil : (j : ℕ) → ν.set j 0 ≡ false
  pub past : (j ℓ : ℕ) → n < ℓ → ν.set j ℓ ≡ false

-- array A on set S, as a heap
unfoldable pub on : Map → Set → Map
on A S ℓ = pick (S ℓ) (suc (A ℓ)) 0

-- "Its model is the stack and array 0 on set 0."
abbrev pub model_heap : Assignment → Map
model_heap ν = on (ν.array 0) (ν.set 0)
