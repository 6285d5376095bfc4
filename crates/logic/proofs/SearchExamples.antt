-- An example of the search: what it answers and writes, and the test that is worked out for it. Assumes nothing.
use Rattle.std.specs.Prelude.{◌≡◌, true}
use Rattle.std.proofs.Math.Path.{sym, ap, ap₂}
use Rattle.std.proofs.Common.{◌∙◌, arith}
use mathlib.Core.List.{List, ◌++◌}
use Prim.Native.Nat.{ℕ, zero, suc, ◌+◌, ◌-◌, ◌≤◌}
use Rattle.std.proofs.Math.ListN.{length, drop}
use Rattle.logic.specs.declared.Answer.{Answer}
use Rattle.logic.specs.Tests.{same_bytes, heap_of}
use Rattle.logic.specs.Checks.{upto, Passes}
use Rattle.logic.proofs.CheckLaws.{passes_then}
use Rattle.logic.specs.Strays.{name_checks}
use Rattle.logic.specs.Book.{vars_of, locs_of, formula_of, Accepted}
use Rattle.logic.proofs.Reflect.{is_and, is_eq, is_self, is_same_bytes}
use Rattle.logic.proofs.ComputedLaws.{is_accepted, is_all_named}
use Rattle.logic.specs.Candidates.{stack_of, model_of}
use Rattle.logic.proofs.CandidateLaws.{model_long}
use Rattle.logic.specs.Search.{FitsAt, total_of, searched, room_checks, search_rest, Searches}
use Rattle.logic.specs.Trials.{fits_at, outcome_of}
use Rattle.logic.proofs.SearchLaws.{outcome_single, outcome_worked_out, searches_outcome, is_fits_at}
use Rattle.logic.specs.SearchExamples.{Searched, SearchedRight, written, worked_out, searched_test}

module _ (w : Searched) (e : searched_test w ≡ true) (o : List ℕ) (a : Answer) (o' : List ℕ) (room : vars_of w.book + locs_of w.book ≤ length o) (q : Searches w.profile w.book w.budget o a o') where
  parts : (Accepted w.book × Passes (upto (name_checks (formula_of w.book)) (vars_of w.book))) × ((((worked_out w).number ≡ w.number) × ((worked_out w).tried ≡ w.tried)) × (same_bytes (written w.book w.number w.tried) w.model ≡ true))
  unfolding searched_test
  parts =
      (is_and _ _ (is_and _ _ (is_accepted w.book) (is_all_named (vars_of w.book) (formula_of w.book)))
      (is_and _ _ (is_and _ _ (is_eq (worked_out w).number w.number) (is_eq (worked_out w).tried w.tried))
      (is_self (same_bytes (written w.book w.number w.tried) w.model)))).to e

  rest_passes : Passes (search_rest w.book o)
  unfolding Passes
  rest_passes = passes_then (upto (name_checks (formula_of w.book)) (vars_of w.book)) (room_checks w.book o) parts.0.1 (room, tt)

  answer_is : a ≡ searched w.number w.tried
  unfolding worked_out outcome_of
  answer_is =
      outcome_single (FitsAt w.profile w.book) (total_of w.book) w.budget a (worked_out w)
      (searches_outcome w.profile w.book w.budget o a o' parts.0.0 rest_passes q)
      (outcome_worked_out (FitsAt w.profile w.book) (fits_at w.profile w.book) (is_fits_at w.profile w.book) (total_of w.book) w.budget)
      ∙ ap₂ searched parts.1.0.0 parts.1.0.1

  bytes_are : o' ≡ w.model ++ drop (length w.model) o
  unfolding written
  bytes_are = go w.number (ap (λ (r : Answer). r.number) answer_is) ((is_same_bytes (written w.book w.number w.tried) w.model).to parts.1.1)
    where
      go : (m : ℕ) → a.number ≡ m → written w.book m w.tried ≡ w.model → o' ≡ w.model ++ drop (length w.model) o
      go zero z x =
          let n = vars_of w.book + locs_of w.book in
          let y : model_of (vars_of w.book) (locs_of w.book) (a.tried - 1) ≡ w.model = ap (λ (r : Answer). model_of (vars_of w.book) (locs_of w.book) (r.tried - 1)) answer_is ∙ x in
          let long : n ≡ length w.model = sym (model_long (vars_of w.book) (locs_of w.book) (stack_of (vars_of w.book) (locs_of w.book) (a.tried - 1)) (heap_of (locs_of w.book) (a.tried - 1))) ∙ ap length y in
          q.wrote z ∙ ap₂ (λ (m : List ℕ) (k : ℕ). m ++ drop k o) y long
      go (suc m) z x = q.kept (λ (f : a.number ≡ 0). absurd (omega arith)) ∙ ap (λ (m : List ℕ). m ++ drop (length m) o) x

pub searched_right : (w : Searched) → searched_test w ≡ true → SearchedRight w
searched_right w e o a o' room q = (answer_is w e o a o' room q, bytes_are w e o a o' room q)
