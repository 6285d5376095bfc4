-- What proofs/CountLaws speaks of. Assumes nothing: these are definitions.
use Rattle.std.specs.Prelude.{◌≡◌, Bool, List, ℕ, zero, suc, ◌+◌, length}
use Rattle.logic.specs.Tests.{pick}
use Rattle.grammar.specs.Places.{known}
use Rattle.writing.specs.Writing.{name_of}

-- ---- how many of k numbers have a property

unfoldable pub count : ℕ → (ℕ → Bool) → ℕ
count zero P = 0
count (suc k) P = pick (P k) 1 0 + count k P

abbrev pub Counted : ℕ → List (List ℕ) → Type 0
Counted v ns = length ns ≡ count v (λ i. known ns (name_of i))
