-- Where a formula holds on the same heaps in both profiles, as it does without operator 8, they give the same answers: over
-- candidates, over the judge's bytes and over searches. Assumes nothing.
use Rattle.std.specs.Prelude.{List, ◌↔◌, ℕ}
use Rattle.logic.specs.declared.Profile.{Profile}
use Rattle.logic.specs.declared.Profile.TheVariants.{Strong, Ordinary}
use Rattle.logic.specs.declared.Answer.{Answer}
use Rattle.logic.proofs.CheckLaws.{then_passes}
use Rattle.logic.specs.Heap.{Map, Stack, Allocated, Disjoint}
use Rattle.logic.specs.Formula.{Form}
use Rattle.logic.specs.Tests.{heap_of}
use Rattle.logic.specs.Book.{book_formula, vars_of, locs_of, path_of, book_checks}
use Rattle.logic.specs.Model.{stack_in, heap_in, model_checks, judge_checks, Fits, FitsBook, Verdict, Judges}
use Rattle.logic.proofs.ModelLaws.{model_stack}
use Rattle.logic.specs.Candidates.{stack_of}
use Rattle.logic.proofs.CandidateLaws.{stack_of_stack}
use Rattle.logic.specs.Search.{FitsAt, total_of, Outcome, search_checks, Searches}
use Rattle.laws.specs.Negations.{NoSeptraction, NoNegation}
use Rattle.laws.proofs.SameAnswers.{verdict_same, answers_more, outcome_same}
use Rattle.laws.proofs.Profiles.{same_truth, same_fits}
use Rattle.laws.specs.ProfileAnswers.{Alike}

-- the ordinary profile "asks only that no cell be allocated twice"
pub ordinary_is : (v : ℕ) (s g h : Map) → Disjoint Ordinary v s g h ↔ ((ℓ : ℕ) → ¬ (Allocated g ℓ × Allocated h ℓ))
ordinary_is v s g h = (λ d. d.alone, λ f. record { alone = f; meet = λ ℓ a b. tt })

flip : {P Q : Type 0} → P ↔ Q → Q ↔ P
flip i = (i.1, i.0)

-- from either profile to either: P π is what is said in profile π
either : (P : Profile → Type 0) → P Ordinary ↔ P Strong → (π ρ : Profile) → P π ↔ P ρ
either P i Strong Strong = (λ q. q, λ q. q)
either P i Strong Ordinary = flip i
either P i Ordinary Strong = i
either P i Ordinary Ordinary = (λ q. q, λ q. q)

-- "where a formula has neither operator 8 nor operator 10, both profiles give every model the same answer": this is weaker than
-- same-fits, which allows operator 10
pub same_fits_02 : (v n p : ℕ) (s h : Map) → Stack v n s → (F : Form) → NoNegation F → NoSeptraction F → (π ρ : Profile) → Fits π v n p F s h ↔ Fits ρ v n p F s h
same_fits_02 v n p s h ks F c _ = either (λ π. Fits π v n p F s h) (same_fits v n s ks p F c h)

alike_fits : (v n p : ℕ) (F : Form) → Alike v n F → (s : Map) → Stack v n s → (h : Map) → (π ρ : Profile) → Fits π v n p F s h ↔ Fits ρ v n p F s h
alike_fits v n p F c s ks h = either (λ π. Fits π v n p F s h) (λ q. ((c s ks h).0 q.0, q.1), λ q. ((c s ks h).1 q.0, q.1))

module _ (s : List ℕ) (c : Alike (vars_of s) (locs_of s) (book_formula s)) (π ρ : Profile) where
  -- the judge's answers
  pub alike_judged : (m : List ℕ) (a : Answer) → Judges π s m a → Judges ρ s m a
  unfolding Judges
  alike_judged m a =
      answers_more (judge_checks s m) (Verdict (FitsBook π s m)) (Verdict (FitsBook ρ s m)) a
      (λ ok. let r = (then_passes (book_checks s) (model_checks (vars_of s) (locs_of s) m) ok).1 in verdict_same a (alike_fits (vars_of s) (locs_of s) (path_of s) (book_formula s) c (stack_in (vars_of s) m) (model_stack (vars_of s) (locs_of s) m r) (heap_in (vars_of s) (locs_of s) m) π ρ))

  -- the candidates that fit
  alike_candidate : (k : ℕ) → FitsAt π s k ↔ FitsAt ρ s k
  alike_candidate k =
      alike_fits (vars_of s) (locs_of s) (path_of s) (book_formula s) c (stack_of (vars_of s) (locs_of s) k) (stack_of_stack (vars_of s) (locs_of s) k) (heap_of (locs_of s) k) π ρ

  -- the search's answers, and the output
  pub alike_searched : (b : ℕ) (o : List ℕ) (a : Answer) (o' : List ℕ) → Searches π s b o a o' → Searches ρ s b o a o'
  alike_searched b o a o' q =
      record {
        answer = answers_more (search_checks s o) (Outcome (FitsAt π s) (total_of s) b) (Outcome (FitsAt ρ s) (total_of s) b) a
            (λ _. outcome_same (FitsAt π s) (FitsAt ρ s) (total_of s) b a alike_candidate) q.answer;
        wrote = q.wrote;
        kept = q.kept;
      }

module _ (s : List ℕ) (c : NoNegation (book_formula s)) (π ρ : Profile) where
  alike : Alike (vars_of s) (locs_of s) (book_formula s)
  alike t ks h = same_truth (vars_of s) (locs_of s) t ks (book_formula s) c h

  pub same_judged : (m : List ℕ) (a : Answer) → Judges π s m a → Judges ρ s m a
  same_judged = alike_judged s alike π ρ

  pub same_searched : (b : ℕ) (o : List ℕ) (a : Answer) (o' : List ℕ) → Searches π s b o a o' → Searches ρ s b o a o'
  same_searched = alike_searched s alike π ρ
