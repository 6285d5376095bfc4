-- A renumbering of the locations; and stacks, heaps, model bytes and candidates under it. Assumes nothing: these are
-- definitions.
use Rattle.std.specs.Prelude.{◌≡◌, List, ℕ, zero, suc, ◌≤◌, leb}
use Rattle.logic.specs.Heap.{Map}
use Rattle.logic.specs.Tests.{pick, heap_of}
use Rattle.logic.specs.Model.{stack_in, heap_in}
use Rattle.logic.specs.Candidates.{stack_of, number_of, model_bytes}

-- "renumbering the locations from 1 to n, nil staying put": to gives each location its new number, from takes it back
pub record Renumbering (n : ℕ) (to from : Map) : Type 0 where
  pub there : (ℓ : ℕ) → from (to ℓ) ≡ ℓ
  pub back : (ℓ : ℕ) → to (from ℓ) ≡ ℓ
  pub nil : to 0 ≡ 0
  pub low : (ℓ : ℕ) → ℓ ≤ n → to ℓ ≤ n
  pub low_back : (ℓ : ℕ) → ℓ ≤ n → from ℓ ≤ n

-- to for the locations up to n alone, each location past n keeping its number
abbrev pub within : ℕ → Map → Map
within n to ℓ = pick (leb ℓ n) (to ℓ) ℓ

-- "in stack and heap together": a variable's new location; and at a location's new number its digit, whose value has a new
-- number too
unfoldable pub new_stack : Map → Map → Map
new_stack to s x = to (s x)

abbrev pub renumbered_digit : Map → ℕ → ℕ
renumbered_digit to zero = 0
renumbered_digit to (suc a) = suc (to a)

unfoldable pub new_heap : Map → Map → Map → Map
new_heap to from h ℓ = renumbered_digit to (h (from ℓ))

-- the bytes of the renumbered model m
abbrev pub renumbered_model : ℕ → ℕ → Map → Map → List ℕ → List ℕ
renumbered_model v n to from m = model_bytes v n (new_stack to (stack_in v m)) (new_heap to from (heap_in v n m))

-- the number of the renumbered candidate c
abbrev pub renumbered_candidate : ℕ → ℕ → Map → Map → ℕ → ℕ
renumbered_candidate v n to from c = number_of v n (new_stack to (stack_of v n c)) (new_heap to from (heap_of n c))
