-- What proofs/ProfileAnswers speaks of. Assumes nothing: these are definitions.
use Rattle.std.specs.Prelude.{◌↔◌, ℕ}
use Rattle.logic.specs.declared.Profile.TheVariants.{Strong, Ordinary}
use Rattle.logic.specs.Heap.{Map, Stack}
use Rattle.logic.specs.Formula.{Form}
use Rattle.logic.specs.Holds.{Holds}

-- the formula holds on the same heaps in both profiles
abbrev pub Alike : ℕ → ℕ → Form → Type 0
Alike v n F = (s : Map) → Stack v n s → (h : Map) → Holds Ordinary v n F s h ↔ Holds Strong v n F s h
