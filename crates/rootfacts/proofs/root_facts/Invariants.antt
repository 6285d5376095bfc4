-- What the loop keeps.
use mathlib.Core.Path.{◌≡◌}
use Prim.Native.Nat.{ℕ, ◌<◌}
use lib.ListN.{length}
use Rattle.logic.specs.Table.{tree}
use Rattle.cells.specs.Cells.{cells}
use Rattle.rootfacts.specs.RootFacts.{entries, EntryAt}
use Rattle.rootfacts.proofs.root_facts.Given as goal

abbrev pub invariant-loop-l : goal.invariant-loop-l
invariant-loop-l l = (length l.t ≡ entries) × ((ℓ : ℕ) → ℓ < l.l → EntryAt l.n (tree l.f l.k) (cells l.s) l.t ℓ)
