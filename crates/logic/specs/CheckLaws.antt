-- What proofs/CheckLaws speaks of. Assumes nothing: these are definitions.
use Rattle.std.specs.Prelude.{◌≡◌}
use Prim.Native.Nat.{◌≤◌}
use Rattle.logic.specs.declared.Answer.{Answer}
use Rattle.logic.specs.Numbers.{answer, yes_number}
use Rattle.logic.specs.Checks.{Checks, done, check}

-- at most one answer fits
abbrev pub Single : (Answer → Type 0) → Type 0
Single R = (a b : Answer) → R a → R b → a ≡ b

-- "0": every part holds
abbrev pub Yes : Answer → Type 0
Yes a = a ≡ answer yes_number 0

-- no refusal of c has number 0
unfoldable pub Refuses : Checks → Type 0
Refuses done = Unit {0}
Refuses (check P m k c) = (1 ≤ m) × Refuses c
