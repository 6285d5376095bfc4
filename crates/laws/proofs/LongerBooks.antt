-- A book with a larger path bound loses no model, and no search of it that found says none. Assumes nothing.
use Rattle.std.specs.Prelude.{◌≡◌, refl, List, ℕ, ◌<◌}
use Rattle.std.proofs.Common.{subst, inl}
use Rattle.std.proofs.Math.Path.{subst₂}
use Rattle.logic.specs.declared.Profile.{Profile}
use Rattle.logic.specs.declared.Answer.{Answer}
use Rattle.logic.specs.Numbers.{answer, yes_number}
use Rattle.logic.specs.Checks.{Passes}
use Rattle.logic.proofs.CheckLaws.{answers_passed, passes_then}
use Rattle.logic.specs.Heap.{Map}
use Rattle.logic.specs.Tests.{heap_of}
use Rattle.logic.specs.Table.{tree}
use Rattle.logic.specs.Book.{book_formula, vars_of, locs_of, path_of, root, book_checks, Accepted}
use Rattle.logic.proofs.BookLaws.{book_zero}
use Rattle.logic.specs.Model.{stack_in, heap_in, model_checks, judge_checks, Fits, FitsBook, Verdict, Judges}
use Rattle.logic.proofs.ModelLaws.{model_refuses, verdict_zero}
use Rattle.logic.specs.Candidates.{total, stack_of}
use Rattle.logic.specs.Search.{FitsAt}
use Rattle.laws.specs.Wider.{Longer}
use Rattle.laws.specs.NeverNone.{NeverNone}
use Rattle.laws.proofs.NeverNone.{never_none}
use Rattle.laws.proofs.LongerPaths.{fits_longer}

module _ (π : Profile) (s t : List ℕ) (w : Longer s t) where
  -- a stack and a heap of v variables and n locations
  longer : (S H : ℕ → ℕ → Map) → Fits π (vars_of s) (locs_of s) (path_of s) (book_formula s) (S (vars_of s) (locs_of s)) (H (vars_of s) (locs_of s)) → Fits π (vars_of t) (locs_of t) (path_of t) (book_formula t) (S (vars_of t) (locs_of t)) (H (vars_of t) (locs_of t))
  longer S H q =
      subst (λ (f : List ℕ). Fits π (vars_of t) (locs_of t) (path_of t) (tree f (root f)) (S (vars_of t) (locs_of t)) (H (vars_of t) (locs_of t))) w.formula
      (subst₂ (λ (v n : ℕ). Fits π v n (path_of t) (book_formula s) (S v n) (H v n)) w.vars w.locs
      (fits_longer π (vars_of s) (locs_of s) (path_of s) (path_of t) (book_formula s) (S (vars_of s) (locs_of s)) (H (vars_of s) (locs_of s)) w.path q))

  pub model_longer : (m : List ℕ) → FitsBook π s m → FitsBook π t m
  model_longer m q = longer (λ v n. stack_in v m) (λ v n. heap_in v n m) q

  pub candidate_longer : (k : ℕ) → FitsAt π s k → FitsAt π t k
  candidate_longer k q = longer (λ v n. stack_of v n k) (λ v n. heap_of n k) q

  -- the judge still accepts the model, with the same bytes
  pub still_fits_longer : Accepted t → (m : List ℕ) (r : Answer) → Judges π s m r → r.number ≡ yes_number → Judges π t m (answer yes_number 0)
  unfolding Judges Accepted
  still_fits_longer ok m r q e =
      let k = book_zero s (model_checks (vars_of s) (locs_of s) m) (Verdict (FitsBook π s m)) r (model_refuses (vars_of s) (locs_of s) m) q e in
      let range = subst₂ (λ (v n : ℕ). Passes (model_checks v n m)) w.vars w.locs k.1.0 in
      answers_passed (judge_checks t m) (Verdict (FitsBook π t m)) (answer yes_number 0) (passes_then (book_checks t) (model_checks (vars_of t) (locs_of t) m) ok range)
      (inl (model_longer m (verdict_zero (FitsBook π s m) r k.1.1 e), refl))

  -- and no search that found says "none"
  pub found_never_none_longer : NeverNone π s t
  found_never_none_longer =
      never_none π s t (λ k l q. (k, subst₂ (λ (v n : ℕ). k < total v n) w.vars w.locs l, candidate_longer k q))
