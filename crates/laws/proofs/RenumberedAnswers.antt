-- A renumbered model gets the judge's answer for the model, and a renumbered candidate fits exactly if the candidate does.
-- Assumes nothing.
use Rattle.std.specs.Prelude.{◌≡◌, List, ◌↔◌, ℕ, ◌<◌}
use Rattle.std.proofs.Common.{sym, subst₂}
use Rattle.logic.specs.declared.Profile.{Profile}
use Rattle.logic.specs.declared.Answer.{Answer}
use Rattle.logic.specs.Checks.{Passes}
use Rattle.logic.proofs.CheckLaws.{answers_passed, answers_rest, passes_then}
use Rattle.logic.specs.Heap.{Map, Stack, Heap}
use Rattle.logic.specs.Formula.{Form}
use Rattle.logic.specs.Tests.{heap_of}
use Rattle.logic.proofs.Agree.{heap_of_heap}
use Rattle.logic.specs.Book.{vars_of, locs_of, book_checks, Accepted}
use Rattle.logic.specs.Model.{stack_in, heap_in, model_checks, judge_checks, Fits, FitsBook, Verdict, Judges}
use Rattle.logic.specs.Candidates.{total, stack_of}
use Rattle.logic.proofs.CandidateLaws.{stack_of_stack, number_lt, stack_of_number, heap_of_its_number, model_in_range}
use Rattle.logic.specs.Search.{CandidateFits}
use Rattle.laws.proofs.SameAnswers.{verdict_same}
use Rattle.laws.specs.Renumbering.{Renumbering, new_stack, new_heap, renumbered_model, renumbered_candidate}
use Rattle.laws.proofs.RenumberingLaws.{new_stack_is, new_heap_is}
use Rattle.laws.proofs.RenumberedTruth.{renumbered}
use Rattle.laws.proofs.RenumberedMaps.{new_stack_in, new_heap_in}
use Rattle.laws.proofs.RenumberedModels.{model_renumbered}

-- ---- candidates

module _ (v n : ℕ) (to from : Map) (w : Renumbering n to from) (c : ℕ) where
  new_stack_of : Stack v n (new_stack to (stack_of v n c))
  new_stack_of = new_stack_is n to from w v (stack_of v n c) (stack_of_stack v n c)

  new_heap_of : Heap n (new_heap to from (heap_of n c))
  new_heap_of = new_heap_is n to from w (heap_of n c) (heap_of_heap n c)

  pub renumbered_lt : renumbered_candidate v n to from c < total v n
  renumbered_lt = number_lt v n (new_stack to (stack_of v n c)) (new_heap to from (heap_of n c)) new_stack_of new_heap_of

  -- the digits of its number
  pub stack_renumbered : stack_of v n (renumbered_candidate v n to from c) ≡ new_stack to (stack_of v n c)
  stack_renumbered = stack_of_number v n (new_stack to (stack_of v n c)) (new_heap to from (heap_of n c)) new_stack_of new_heap_of

  pub heap_renumbered : heap_of n (renumbered_candidate v n to from c) ≡ new_heap to from (heap_of n c)
  heap_renumbered = heap_of_its_number v n (new_stack to (stack_of v n c)) (new_heap to from (heap_of n c)) new_stack_of new_heap_of

  pub candidate_renumbered : (π : Profile) (p : ℕ) (F : Form) → CandidateFits π v n p F c ↔ CandidateFits π v n p F (renumbered_candidate v n to from c)
  candidate_renumbered π p F =
      subst₂ (λ (s h : Map). CandidateFits π v n p F c ↔ Fits π v n p F s h) (sym stack_renumbered) (sym heap_renumbered)
      (renumbered π v n p F to from w (stack_of v n c) (heap_of n c))

-- ---- the judge's bytes

-- for an accepted book and a model in range the answer is the verdict
judges_verdict : (π : Profile) (s m : List ℕ) (a : Answer) → Accepted s → Passes (model_checks (vars_of s) (locs_of s) m) → Judges π s m a ↔ Verdict (FitsBook π s m) a
unfolding Judges Accepted
judges_verdict π s m a ok range =
    let both = passes_then (book_checks s) (model_checks (vars_of s) (locs_of s) m) ok range in
    (answers_rest (judge_checks s m) (Verdict (FitsBook π s m)) a both, answers_passed (judge_checks s m) (Verdict (FitsBook π s m)) a both)

module _ (π : Profile) (s : List ℕ) (ok : Accepted s) (to from : Map) (w : Renumbering (locs_of s) to from) (m : List ℕ) (range : Passes (model_checks (vars_of s) (locs_of s) m)) where
  -- number, place and tried are the same
  pub renumbered_judged : (a : Answer) → Judges π s m a ↔ Judges π s (renumbered_model (vars_of s) (locs_of s) to from m) a
  renumbered_judged a =
      let m' = renumbered_model (vars_of s) (locs_of s) to from m in
      let old = judges_verdict π s m a ok range in
      let new = judges_verdict π s m' a ok (model_in_range (vars_of s) (locs_of s) (new_stack to (stack_in (vars_of s) m)) (new_heap to from (heap_in (vars_of s) (locs_of s) m)) (new_stack_in π s ok to from w m range) (new_heap_in π s ok to from w m range)) in
      let i = model_renumbered π s ok to from w m range in
      (λ q. new.1 (verdict_same a i (old.0 q)), λ q. old.1 (verdict_same a (i.1, i.0) (new.0 q)))
