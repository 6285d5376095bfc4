-- The judge accepts what the search finds. Assumes nothing.
use Rattle.std.specs.Prelude.{◌≡◌, refl, List, ℕ, ◌+◌, ◌-◌, take, drop}
use Rattle.std.proofs.Common.{sym, subst, subst₂, ◌∙◌, ap, inl, arith, take_at}
use Rattle.logic.specs.declared.Profile.{Profile}
use Rattle.logic.specs.declared.Answer.{Answer}
use Rattle.logic.specs.Numbers.{answer, yes_number}
use Rattle.logic.proofs.CheckLaws.{answers_passed, passes_then}
use Rattle.logic.specs.Tests.{heap_of}
use Rattle.logic.proofs.Agree.{heap_of_heap}
use Rattle.logic.specs.Book.{book_formula, vars_of, locs_of, path_of, book_checks, Accepted}
use Rattle.logic.proofs.BookLaws.{accepted_whole}
use Rattle.logic.specs.Model.{model_checks, judge_checks, Fits, FitsBook, Verdict, Judges}
use Rattle.logic.specs.Candidates.{stack_of, model_of}
use Rattle.logic.proofs.CandidateLaws.{stack_of_stack, stack_in_model, heap_in_model, model_long, model_in_range}
use Rattle.logic.specs.Search.{FitsAt, total_of, Outcome, found, none, spent, Searches}
use Rattle.logic.specs.RefusalLaws.{Answered}
use Rattle.logic.proofs.RefusalLaws.{searches_answered}

module _ (π : Profile) (s : List ℕ) (ok : Accepted s) (k : ℕ) where
  -- a candidate that fits, by its bytes
  candidate_fits : FitsAt π s k → FitsBook π s (model_of (vars_of s) (locs_of s) k)
  candidate_fits q =
      subst₂ (Fits π (vars_of s) (locs_of s) (path_of s) (book_formula s))
      (sym (stack_in_model (vars_of s) (locs_of s) (stack_of (vars_of s) (locs_of s) k) (heap_of (locs_of s) k) (stack_of_stack (vars_of s) (locs_of s) k)))
      (sym (heap_in_model (vars_of s) (locs_of s) (stack_of (vars_of s) (locs_of s) k) (heap_of (locs_of s) k) (omega (arith, (accepted_whole s ok).bounds.locs)) (heap_of_heap (locs_of s) k)))
      q

  candidate_judged : FitsAt π s k → Judges π s (model_of (vars_of s) (locs_of s) k) (answer yes_number 0)
  unfolding Judges Accepted
  candidate_judged q =
      let m = model_of (vars_of s) (locs_of s) k in
      answers_passed (judge_checks s m) (Verdict (FitsBook π s m)) (answer yes_number 0)
      (passes_then (book_checks s) (model_checks (vars_of s) (locs_of s) m) ok
      (model_in_range (vars_of s) (locs_of s) (stack_of (vars_of s) (locs_of s) k) (heap_of (locs_of s) k) (stack_of_stack (vars_of s) (locs_of s) k) (heap_of_heap (locs_of s) k)))
      (inl (candidate_fits q, refl))

pub found_fits : (π : Profile) (s : List ℕ) (b : ℕ) (o : List ℕ) (a : Answer) (o' : List ℕ) → Searches π s b o a o' → a.number ≡ yes_number → Judges π s (take (vars_of s + locs_of s) o') (answer yes_number 0)
found_fits π s b o a o' q e = go known.outcome
  where
    known : Answered π s b o a
    known = searches_answered π s b o a o' q (omega arith)

    number : (y : Answer) → a ≡ y → y.number ≡ yes_number
    number y g = ap (λ (r : Answer). r.number) (sym g) ∙ e

    go : Outcome (FitsAt π s) (total_of s) b a → Judges π s (take (vars_of s + locs_of s) o') (answer yes_number 0)
    go (none u g) = let z = number _ g in absurd (omega arith)
    go (spent u w g) = let z = number _ g in absurd (omega arith)
    go (found k u g) =
        let c : a.tried - 1 ≡ k = ap (λ (r : Answer). r.tried - 1) g ∙ omega arith in
        let m = model_of (vars_of s) (locs_of s) (a.tried - 1) in
        let bytes : take (vars_of s + locs_of s) o' ≡ m = ap (take (vars_of s + locs_of s)) (q.wrote e) ∙ take_at m (drop (vars_of s + locs_of s) o) (vars_of s + locs_of s) (model_long (vars_of s) (locs_of s) (stack_of (vars_of s) (locs_of s) (a.tried - 1)) (heap_of (locs_of s) (a.tried - 1))) in
        subst (λ (x : List ℕ). Judges π s x (answer yes_number 0)) (sym (bytes ∙ ap (model_of (vars_of s) (locs_of s)) c)) (candidate_judged π s known.accepted k u.0.fits)
