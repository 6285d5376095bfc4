-- Where a search says "none", the judge says of every model in range that it doesn't fit; and the other way round. Assumes
-- nothing.
use Rattle.std.specs.Prelude.{◌≡◌, refl, List, ℕ, ◌+◌}
use Rattle.std.proofs.Common.{subst₂, sym}
use Rattle.std.proofs.Math.Path.{ap}
use Rattle.std.proofs.Math.Logic.{⊎_elim}
use native.Mathlib.Omega.{arith}
use Rattle.std.proofs.Math.ListN.{take}
use Rattle.logic.specs.declared.Profile.{Profile}
use Rattle.logic.specs.declared.Answer.{Answer}
use Rattle.logic.specs.Numbers.{answer, yes_number, no_number}
use Rattle.logic.specs.Checks.{Passes}
use Rattle.logic.proofs.CheckLaws.{answers_rest, passes_then}
use Rattle.logic.specs.Book.{book_formula, vars_of, locs_of, path_of, book_checks, Accepted}
use Rattle.logic.proofs.BookLaws.{book_zero}
use Rattle.logic.specs.Model.{stack_in, heap_in, model_checks, judge_checks, Fits, FitsBook, Verdict, Judges}
use Rattle.logic.proofs.ModelLaws.{model_stack, model_heap_is, model_refuses}
use Rattle.logic.specs.Candidates.{candidate_of}
use Rattle.logic.proofs.CandidateLaws.{stack_of_number, heap_of_its_number, candidate_lt}
use Rattle.logic.specs.Search.{FitsAt, total_of, Outcome, found, none, spent, Searches}
use Rattle.logic.specs.RefusalLaws.{Answered}
use Rattle.logic.proofs.RefusalLaws.{searches_answered}
use Rattle.laws.specs.LargerBudget.{Says}
use Rattle.laws.proofs.FoundFits.{found_fits}
use Rattle.laws.specs.NothingFits.{NothingFits}

-- a model in range that fits is a candidate that fits
fits_candidate : (π : Profile) (s m : List ℕ) → Passes (model_checks (vars_of s) (locs_of s) m) → FitsBook π s m → FitsAt π s (candidate_of (vars_of s) (locs_of s) m)
fits_candidate π s m ok q =
    let v = vars_of s in
    let n = locs_of s in
    let ks = model_stack v n m ok in
    let kh = model_heap_is v n m ok in
    subst₂ (Fits π v n (path_of s) (book_formula s)) (sym (stack_of_number v n (stack_in v m) (heap_in v n m) ks kh)) (sym (heap_of_its_number v n (stack_in v m) (heap_in v n m) ks kh)) q

module _ (π : Profile) (s : List ℕ) (b : ℕ) (o : List ℕ) (a : Answer) (o' : List ℕ) (q : Searches π s b o a o') where
  pub none_nothing_fits : a.number ≡ no_number → NothingFits π s
  unfolding Judges Accepted
  none_nothing_fits e m r ok j =
      ⊎_elim (λ x. absurd (misfit known.outcome x.0)) (λ x. x.1)
      (answers_rest (judge_checks s m) (Verdict (FitsBook π s m)) r (passes_then (book_checks s) (model_checks (vars_of s) (locs_of s) m) known.accepted ok) j)
    where
      known : Answered π s b o a
      known = searches_answered π s b o a o' q (omega arith)

      number : (y : Answer) → a ≡ y → y.number ≡ no_number
      number y g = rw (← g) e

      misfit : Outcome (FitsAt π s) (total_of s) b a → FitsBook π s m → ⊥
      misfit (found k u g) f = let z = number _ g in omega arith
      misfit (spent u w g) f = let z = number _ g in omega arith
      misfit (none u g) f = u.0 (candidate_of (vars_of s) (locs_of s) m) (candidate_lt (vars_of s) (locs_of s) m ok) (fits_candidate π s m ok f)

  pub nothing_fits_none : Says a → NothingFits π s → a.number ≡ no_number
  unfolding Judges
  nothing_fits_none w f = ⊎_elim (λ e. absurd (never e)) (λ e. e) w
    where
      never : a.number ≡ yes_number → ⊥
      never e =
          let m = take (vars_of s + locs_of s) o' in
          let j = found_fits π s b o a o' q e in
          let ok = (book_zero s (model_checks (vars_of s) (locs_of s) m) (Verdict (FitsBook π s m)) (answer yes_number 0) (model_refuses (vars_of s) (locs_of s) m) j refl).1.0 in
          let z : yes_number ≡ no_number = ap (λ (r : Answer). r.number) (f m (answer yes_number 0) ok j) in
          omega arith
