-- The search, worked out: each candidate is tried upward, up to the first that fits. Assumes nothing: these are definitions.
use Rattle.std.specs.Prelude.{Bool, List, ℕ, zero, suc, ◌+◌, ltb, leb}
use Rattle.logic.specs.declared.Profile.{Profile}
use Rattle.logic.specs.declared.Answer.{Answer}
use Rattle.logic.specs.Numbers.{yes_number, no_number, spent_number}
use Rattle.logic.specs.Tests.{pick, heap_of}
use Rattle.logic.specs.Book.{book_formula, vars_of, locs_of, path_of}
use Rattle.logic.specs.Computed.{fits}
use Rattle.logic.specs.Candidates.{stack_of}
use Rattle.logic.specs.Search.{searched}

-- FitsAt, worked out
unfoldable pub fits_at : Profile → List ℕ → ℕ → Bool
fits_at π s c = fits π (vars_of s) (locs_of s) (path_of s) (book_formula s) (stack_of (vars_of s) (locs_of s) c) (heap_of (locs_of s) c)

-- the lowest number below t at which the test passes, or t
unfoldable pub first : ℕ → (ℕ → Bool) → ℕ
first zero f = 0
first (suc t) f =
    let k = first t f in
    let r = pick (f t) t (suc t) in
    pick (ltb k t) k r

-- the answer, where k is the lowest of t candidates that fits, or t
unfoldable pub outcome_of : ℕ → ℕ → ℕ → Answer
outcome_of t b k =
    searched (pick (ltb k t) (pick (ltb k b) yes_number spent_number) (pick (leb t b) no_number spent_number))
    (pick (ltb k t) (pick (ltb k b) (k + 1) b) (pick (leb t b) t b))
