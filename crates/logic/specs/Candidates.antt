-- The candidates in their order: how many there are, the stack, the heap and the model bytes of each, and the number of a
-- model. Assumes nothing: these are definitions.
use Rattle.std.specs.Prelude.{◌≡◌, List, [], ◌∷◌, ◌++◌, ℕ, zero, suc, ◌+◌, ◌-◌, ◌*◌, ◌/◌, ◌^◌, ◌<◌, eqb, ltb}
use Rattle.logic.specs.Heap.{Map}
use Rattle.logic.specs.Tests.{pick, digit, heap_of}
use Rattle.logic.specs.Digits.{num_of}
use Rattle.logic.specs.Model.{stack_in, heap_in}

-- "That number orders the candidates from 0 to T−1, T = (n+1)^v × (n+2)^n"
abbrev pub total : ℕ → ℕ → ℕ
total v n = (n + 1) ^ v * (n + 2) ^ n

-- m has digits in base b for 1 to k, and nothing for nil and past k: so does a heap, with n digits in base n+2, and a stack, with
-- v digits in base n+1
pub record InBase (b k : ℕ) (m : Map) : Type 0 where
  pub nil : m 0 ≡ 0
  pub low : (i : ℕ) → m i < b
  pub past : (i : ℕ) → k < i → m i ≡ 0

-- the number with these digits, 1 lowest
abbrev pub value_of : ℕ → ℕ → Map → ℕ
value_of b k m = num_of b k (λ i. m (suc i))

-- the k lowest digits of c in base b, for 1 to k
unfoldable pub digits_of : ℕ → ℕ → ℕ → Map
digits_of b k c zero = 0
digits_of b k c (suc i) = pick (ltb i k) (digit b c i) 0

-- "Digits in base n+2 for locations 1 to n, location 1 lowest (0 unallocated, d > 0 meaning value d−1), then digits in base
-- n+1 for variables 1 to v, variable 1 lowest": candidate c's heap is heapOf n c, and this is its stack
abbrev pub stack_of : ℕ → ℕ → ℕ → Map
stack_of v n c = digits_of (n + 1) v (c / (n + 2) ^ n)

-- the number of the candidate with stack s and heap h
abbrev pub number_of : ℕ → ℕ → Map → Map → ℕ
number_of v n s h = value_of (n + 1) v s * (n + 2) ^ n + value_of (n + 2) n h

-- m 1, m 2, .., m k
unfoldable pub bytes_to : ℕ → Map → List ℕ
bytes_to zero m = []
bytes_to (suc k) m = bytes_to k m ++ (m (suc k) ∷ [])

-- "the value 0 to n, or 255 for unallocated", from a digit
abbrev pub byte_of : ℕ → ℕ
byte_of d = pick (eqb d 0) 255 (d - 1)

-- "A model is v bytes (each variable's location, 0 to n) and then n bytes (for locations 1 to n ..)": those of a stack and a heap
abbrev pub model_bytes : ℕ → ℕ → Map → Map → List ℕ
model_bytes v n s h = bytes_to v s ++ bytes_to n (λ ℓ. byte_of (h ℓ))

-- the model bytes of candidate c, and the candidate of a model
abbrev pub model_of : ℕ → ℕ → ℕ → List ℕ
model_of v n c = model_bytes v n (stack_of v n c) (heap_of n c)

abbrev pub candidate_of : ℕ → ℕ → List ℕ → ℕ
candidate_of v n m = number_of v n (stack_in v m) (heap_in v n m)
