-- Two locations exchanged: in stacks, in heaps, and in candidates. Assumes nothing: these are definitions.
use Rattle.std.specs.Prelude.{ℕ, eqb}
use Rattle.logic.specs.Heap.{Map}
use Rattle.logic.specs.Tests.{pick, heap_of}
use Rattle.logic.specs.Candidates.{stack_of, number_of}
use Rattle.laws.specs.Renumbering.{new_stack, new_heap}

unfoldable pub exchange : ℕ → ℕ → Map
exchange a b ℓ = pick (eqb ℓ a) b (pick (eqb ℓ b) a ℓ)

abbrev pub exchanged_stack : ℕ → ℕ → Map → Map
exchanged_stack a b s = new_stack (exchange a b) s

abbrev pub exchanged_heap : ℕ → ℕ → Map → Map
exchanged_heap a b h = new_heap (exchange a b) (exchange a b) h

-- the number of the candidate c with a and b exchanged
abbrev pub exchanged_candidate : ℕ → ℕ → ℕ → ℕ → ℕ → ℕ
exchanged_candidate v n a b c = number_of v n (exchanged_stack a b (stack_of v n c)) (exchanged_heap a b (heap_of n c))
