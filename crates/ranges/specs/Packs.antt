-- What is said of a model's bytes and of the two numbers that they are packed into. Assumes nothing: these are definitions.
use Rattle.std.specs.Prelude.{◌≡◌, true, false, List, ℕ, ◌+◌, ◌≤◌, length, Result, IfOk}
use Rattle.logic.specs.Checks.{Answers}
use Rattle.logic.specs.CheckLaws.{Yes}
use Rattle.logic.specs.Book.{most}
use Rattle.logic.specs.Model.{model_checks}
use Rattle.leaves.specs.declared.Refusal.{Refusal}
use Rattle.leaves.specs.Refusals.{outcome}
use Rattle.packing.specs.Packing.{packed_from}
use Rattle.ranges.specs.declared.Packed.{Packed}

-- as many bytes as a model over v variables and n locations has
pub record Long (v n : ℕ) (m : List ℕ) : Type 0 where
  pub few_vars : v ≤ most
  pub few_locs : n ≤ most
  pub long : length m ≡ v + n

-- their stack and their heap are packed
pub record Holding (v n : ℕ) (m : List ℕ) (s w : ℕ) : Type 0 where
  pub bytes : Long v n m
  pub stack : s ≡ packed_from false m 0 v 0
  pub heap : w ≡ packed_from true m v n 0

-- "17, 18: model of wrong length; value out of range", and the model of those that are not refused
pub record Packs (v n : ℕ) (m : List ℕ) (r : Result Packed Refusal) : Type 0 where
  pub answer : Answers (model_checks v n m) Yes (outcome r)
  pub stack : IfOk r (λ t. t.stack ≡ packed_from false m 0 v 0)
  pub heap : IfOk r (λ t. t.heap ≡ packed_from true m v n 0)
