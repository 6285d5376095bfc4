-- What a search says at a larger budget is what it said, and nothing else. Assumes nothing.
use Rattle.std.specs.Prelude.{◌≡◌, List, ℕ, ◌≤◌}
use Rattle.logic.specs.declared.Profile.{Profile}
use Rattle.logic.specs.declared.Answer.{Answer}
use Rattle.logic.specs.Search.{Searches}
use Rattle.logic.proofs.SearchLaws.{searches_single}
use Rattle.laws.specs.LargerBudget.{Says}
use Rattle.laws.proofs.LargerBudget.{larger_budget}

module _ (π : Profile) (s : List ℕ) (b b' : ℕ) (o : List ℕ) (a : Answer) (o' : List ℕ) (l : b ≤ b') (w : Says a) (q : Searches π s b o a o') where
  -- and nothing else is allowed
  pub larger_budget_only : (c : Answer) (x : List ℕ) → Searches π s b' o c x → (c ≡ a) × (x ≡ o')
  larger_budget_only c x r = searches_single π s b' o c a x o' r (larger_budget π s b b' o a o' l w q)
