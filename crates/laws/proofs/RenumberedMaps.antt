-- The stack and the heap of a model in range, renumbered, are a stack and a heap. Assumes nothing.
use Rattle.std.specs.Prelude.{List, ℕ}
use Rattle.logic.specs.declared.Profile.{Profile}
use Rattle.logic.specs.Checks.{Passes}
use Rattle.logic.specs.Heap.{Map, Stack, Heap}
use Rattle.logic.specs.Book.{vars_of, locs_of, Accepted}
use Rattle.logic.specs.Model.{stack_in, heap_in, model_checks}
use Rattle.logic.proofs.ModelLaws.{model_stack, model_heap_is}
use Rattle.laws.specs.Renumbering.{Renumbering, new_stack, new_heap}
use Rattle.laws.proofs.RenumberingLaws.{new_stack_is, new_heap_is}

module _ (π : Profile) (s : List ℕ) (ok : Accepted s) (to from : Map) (w : Renumbering (locs_of s) to from) (m : List ℕ) (range : Passes (model_checks (vars_of s) (locs_of s) m)) where
  pub new_stack_in : Stack (vars_of s) (locs_of s) (new_stack to (stack_in (vars_of s) m))
  new_stack_in = new_stack_is (locs_of s) to from w (vars_of s) (stack_in (vars_of s) m) (model_stack (vars_of s) (locs_of s) m range)

  pub new_heap_in : Heap (locs_of s) (new_heap to from (heap_in (vars_of s) (locs_of s) m))
  new_heap_in = new_heap_is (locs_of s) to from w (heap_in (vars_of s) (locs_of s) m) (model_heap_is (vars_of s) (locs_of s) m range)
