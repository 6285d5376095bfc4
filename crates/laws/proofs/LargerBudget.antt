-- A larger budget changes nothing that a search has said. Assumes nothing.
use Rattle.std.specs.Prelude.{◌≡◌, List, ℕ, ◌≤◌}
use Rattle.std.proofs.Common.{ap, ⊎_elim, arith}
use Rattle.logic.specs.declared.Profile.{Profile}
use Rattle.logic.specs.declared.Answer.{Answer}
use Rattle.logic.specs.Numbers.{yes_number, no_number, spent_number}
use Rattle.logic.specs.Search.{FitsAt, total_of, Outcome, found, none, spent, Searches}
use Rattle.logic.proofs.SearchLaws.{outcome_answers}
use Rattle.logic.specs.RefusalLaws.{Answered}
use Rattle.logic.proofs.RefusalLaws.{searches_answered}
use Rattle.laws.specs.LargerBudget.{Says}

outcome_larger : (P : ℕ → Type 0) (t b b' : ℕ) (a : Answer) → b ≤ b' → Says a → Outcome P t b a → Outcome P t b' a
outcome_larger P t b b' a l w (found k q e) = found k (q.0, omega (arith, q.1)) e
outcome_larger P t b b' a l w (none q e) = none (q.0, omega (arith, q.1)) e
outcome_larger P t b b' a l w (spent q r e) =
    let z : a.number ≡ spent_number = ap (λ (x : Answer). x.number) e in
    absurd (⊎_elim (λ (y : a.number ≡ yes_number). omega arith) (λ (y : a.number ≡ no_number). omega arith) w)

module _ (π : Profile) (s : List ℕ) (b b' : ℕ) (o : List ℕ) (a : Answer) (o' : List ℕ) (l : b ≤ b') (w : Says a) (q : Searches π s b o a o') where
  -- found or none stays, with the same tried count and the same bytes
  pub larger_budget : Searches π s b' o a o'
  larger_budget =
      record {
        answer = outcome_answers π s b' o known.accepted known.rest a (outcome_larger (FitsAt π s) (total_of s) b b' a l w known.outcome);
        wrote = q.wrote;
        kept = q.kept;
      }
    where
      known : Answered π s b o a
      known = searches_answered π s b o a o' q (⊎_elim (λ (y : a.number ≡ yes_number). omega arith) (λ (y : a.number ≡ no_number). omega arith) w)
