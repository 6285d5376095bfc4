-- What the hunt through the candidates gives back. Assumes nothing: these are definitions.
use Rattle.std.specs.Prelude.{ℕ, ◌-◌, ⊤}
use Rattle.logic.specs.declared.Answer.{Answer}
use Rattle.logic.specs.Numbers.{yes_number, no_number, spent_number}
use Rattle.logic.specs.Candidates.{total}
use Rattle.logic.specs.Search.{searched, Outcome}
use Rattle.sweep.specs.Sweep.{At}
use Rattle.hunt.specs.declared.Ended.{Ended}
use Rattle.hunt.specs.declared.Ended.TheVariants.{Found, Nothing, Spent}

-- the answer that says how the hunt ended
abbrev pub told : Ended → Answer
told (Found tried c) = searched yes_number tried
told (Nothing tried) = searched no_number tried
told (Spent tried) = searched spent_number tried

-- the candidate that it ended at, if that fits, has the number before the tried count
abbrev pub EndedAt : ℕ → ℕ → Ended → Type 0
EndedAt v n (Found tried c) = At v n (tried - 1) c
EndedAt v n (Nothing tried) = ⊤
EndedAt v n (Spent tried) = ⊤

-- the hunt ended as r says, at its candidate
pub record Hunted (v n : ℕ) (P : ℕ → Type 0) (b : ℕ) (r : Ended) : Type 0 where
  pub outcome : Outcome P (total v n) b (told r)
  pub at : EndedAt v n r
