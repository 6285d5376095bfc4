-- One queue with two crews' cell numbers, byte by byte: x is at 1, and the tail, which is no cell, at 3; or the other way round.
-- Assumes nothing.
use Rattle.std.specs.Prelude.{◌≡◌, refl, [], ◌∷◌}
use Rattle.logic.specs.Model.{stack_in, heap_in}
use Rattle.logic.specs.Candidates.{bytes_to}
use Rattle.laws.specs.Renumbering.{new_stack, new_heap, renumbered_model}
use Rattle.laws.specs.Exchange.{exchange}

pub one_queue : renumbered_model 2 4 (exchange 1 3) (exchange 1 3) (1 ∷ 3 ∷ 2 ∷ 3 ∷ 255 ∷ 255 ∷ []) ≡ 3 ∷ 1 ∷ 255 ∷ 1 ∷ 2 ∷ 255 ∷ []
unfolding stack_in heap_in bytes_to new_stack new_heap exchange
one_queue = refl
