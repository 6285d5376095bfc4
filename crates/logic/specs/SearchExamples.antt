-- What proofs/SearchExamples speaks of. Assumes nothing: these are definitions.
use Rattle.std.specs.Prelude.{◌≡◌, Bool, eqb}
use mathlib.Core.List.{List, [], ◌++◌}
use Prim.Native.Nat.{ℕ, zero, suc, ◌+◌, ◌-◌, ◌≤◌}
use Rattle.std.proofs.Math.ListN.{length, drop}
use Rattle.logic.specs.declared.Profile.{Profile}
use Rattle.logic.specs.declared.Answer.{Answer}
use Rattle.logic.specs.Tests.{andb, same_bytes}
use Rattle.logic.specs.Book.{vars_of, locs_of, formula_of}
use Rattle.logic.specs.Computed.{accepted, all_named}
use Rattle.logic.specs.Candidates.{model_of}
use Rattle.logic.specs.Search.{total_of, searched, Searches}
use Rattle.logic.specs.Trials.{fits_at, first, outcome_of}

-- a book, a budget, and what a search gives back: its number, its tried count, and the bytes that it writes
pub record Searched : Type 0 where
  pub profile : Profile
  pub book : List ℕ
  pub budget : ℕ
  pub number : ℕ
  pub tried : ℕ
  pub model : List ℕ

-- every result that the search's statement allows, over any output with room, is the example's
abbrev pub SearchedRight : Searched → Type 0
SearchedRight w =
    (o : List ℕ) (a : Answer) (o' : List ℕ) → vars_of w.book + locs_of w.book ≤ length o → Searches w.profile w.book w.budget o a o'
    → (a ≡ searched w.number w.tried) × (o' ≡ w.model ++ drop (length w.model) o)

-- ---- the test of an example: the book is accepted, atoms name its variables, and the number, the tried count and the bytes are those that are worked out

-- the bytes that a search writes
unfoldable pub written : List ℕ → ℕ → ℕ → List ℕ
written s zero tried = model_of (vars_of s) (locs_of s) (tried - 1)
written s (suc _) tried = []

unfoldable pub worked_out : Searched → Answer
worked_out w = outcome_of (total_of w.book) w.budget (first (total_of w.book) (fits_at w.profile w.book))

unfoldable pub searched_test : Searched → Bool
searched_test w =
    andb (andb (accepted w.book) (all_named (vars_of w.book) (formula_of w.book)))
    (andb (andb (eqb (worked_out w).number w.number) (eqb (worked_out w).tried w.tried))
    (same_bytes (written w.book w.number w.tried) w.model))
