-- What proofs/LargerBudget speaks of. Assumes nothing: these are definitions.
use Rattle.std.specs.Prelude.{◌≡◌, ◌⊎◌}
use Rattle.logic.specs.declared.Answer.{Answer}
use Rattle.logic.specs.Numbers.{yes_number, no_number}

-- the search says found or none
abbrev pub Says : Answer → Type 0
Says a = (a.number ≡ yes_number) ⊎ (a.number ≡ no_number)
