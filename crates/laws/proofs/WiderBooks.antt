-- More locations never lose a model, where no septraction stands under a negation: of formulas, of candidates and of books.
-- Assumes nothing.
use Rattle.std.specs.Prelude.{List, ℕ, ◌<◌, ◌≤◌}
use Rattle.std.proofs.Common.{sym, subst, subst₂}
use Rattle.logic.specs.declared.Profile.{Profile}
use Rattle.logic.specs.Checks.{Passes}
use Rattle.logic.specs.Heap.{Map}
use Rattle.logic.specs.Formula.{Form}
use Rattle.logic.specs.Tests.{heap_of}
use Rattle.logic.proofs.Agree.{heap_more, heap_of_heap}
use Rattle.logic.specs.Table.{tree}
use Rattle.logic.specs.Book.{book_formula, vars_of, locs_of, path_of, root}
use Rattle.logic.specs.Model.{stack_in, heap_in, model_checks, Fits, FitsBook}
use Rattle.logic.specs.Candidates.{total, stack_of, number_of}
use Rattle.logic.proofs.CandidateLaws.{stack_of_stack, number_lt, stack_of_number, heap_of_its_number}
use Rattle.logic.specs.Search.{CandidateFits, FitsAt, total_of}
use Rattle.laws.specs.Negations.{NoneUnderNegation}
use Rattle.laws.specs.Wider.{Wider, widened}
use Rattle.laws.specs.NeverNone.{NeverNone}
use Rattle.laws.proofs.NeverNone.{never_none}
use Rattle.laws.proofs.LongerPaths.{fits_longer}
use Rattle.laws.proofs.MoreLocations.{stack_more, holds_more}
use Rattle.laws.proofs.WidenedModels.{widened_stack, widened_heap}

module _ (π : Profile) (v : ℕ) where
  -- what fits at n and p fits at every n' from n on and every p' from p on
  pub fits_more : (F : Form) (n n' p p' : ℕ) (s h : Map) → n ≤ n' → p ≤ p' → NoneUnderNegation F → Fits π v n p F s h → Fits π v n' p' F s h
  fits_more F n n' p p' s h l m c q = fits_longer π v n' p p' F s h m (holds_more π v F n n' s h l c q.0, q.1)

-- a candidate that fits at n is a candidate that fits at n', of another number
pub candidate_more : (π : Profile) (v n n' p p' : ℕ) (F : Form) (c : ℕ) → n ≤ n' → p ≤ p' → NoneUnderNegation F → CandidateFits π v n p F c → (i : ℕ) × (i < total v n') × CandidateFits π v n' p' F i
candidate_more π v n n' p p' F c l lp w q =
    let s = stack_of v n c in
    let h = heap_of n c in
    let ks = stack_more v n n' s l (stack_of_stack v n c) in
    let kh = heap_more n n' h l (heap_of_heap n c) in
    (number_of v n' s h, number_lt v n' s h ks kh, rw (stack_of_number v n' s h ks kh, heap_of_its_number v n' s h ks kh) (fits_more π v F n n' p p' s h l lp w q))

-- ---- the same of books: found never becomes none

module _ (π : Profile) (s t : List ℕ) (w : Wider s t) (c : NoneUnderNegation (book_formula s)) where
  -- t is judged as s is, with its own n and p
  pub judged_as : (S H : Map) → Fits π (vars_of s) (locs_of t) (path_of t) (book_formula s) S H → Fits π (vars_of t) (locs_of t) (path_of t) (book_formula t) S H
  judged_as S H q =
      subst (λ (f : List ℕ). Fits π (vars_of t) (locs_of t) (path_of t) (tree f (root f)) S H) w.formula
      (subst (λ (v : ℕ). Fits π v (locs_of t) (path_of t) (book_formula s) S H) w.vars q)

  pub found_more : (k : ℕ) → FitsAt π s k → (i : ℕ) × (i < total_of t) × FitsAt π t i
  found_more k q =
      let r = candidate_more π (vars_of s) (locs_of s) (locs_of t) (path_of s) (path_of t) (book_formula s) k w.locs w.path c q in (
        r.0,
        subst (λ (v : ℕ). r.0 < total v (locs_of t)) w.vars r.1,
        judged_as (stack_of (vars_of t) (locs_of t) r.0) (heap_of (locs_of t) r.0)
            (subst (λ (v : ℕ). Fits π (vars_of s) (locs_of t) (path_of t) (book_formula s) (stack_of v (locs_of t) r.0) (heap_of (locs_of t) r.0)) w.vars r.2),
      )

  pub found_never_none : NeverNone π s t
  found_never_none = never_none π s t (λ k _ q. found_more k q)

  -- and of a model's bytes
  pub model_more : (m : List ℕ) → Passes (model_checks (vars_of s) (locs_of s) m) → FitsBook π s m → FitsBook π t (widened (locs_of s) (locs_of t) m)
  unfolding Passes
  model_more m ok q =
      judged_as (stack_in (vars_of t) (widened (locs_of s) (locs_of t) m)) (heap_in (vars_of t) (locs_of t) (widened (locs_of s) (locs_of t) m))
      (subst (λ (v : ℕ). Fits π (vars_of s) (locs_of t) (path_of t) (book_formula s) (stack_in v (widened (locs_of s) (locs_of t) m)) (heap_in v (locs_of t) (widened (locs_of s) (locs_of t) m))) w.vars
      (subst₂ (Fits π (vars_of s) (locs_of t) (path_of t) (book_formula s))
      (sym (widened_stack (vars_of s) (locs_of s) (locs_of t) m ok.0 w.locs)) (sym (widened_heap (vars_of s) (locs_of s) (locs_of t) m ok.0 w.locs))
      (fits_more π (vars_of s) (book_formula s) (locs_of s) (locs_of t) (path_of s) (path_of t) (stack_in (vars_of s) m) (heap_in (vars_of s) (locs_of s) m) w.locs w.path c q)))
