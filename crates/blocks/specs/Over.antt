-- Which blocks of a heap's digits are passed over. Assumes nothing: these are definitions.
use Rattle.std.specs.Prelude.{◌≡◌, true, List, ℕ, suc, ◌+◌, ◌<◌}
use Rattle.logic.specs.declared.Profile.{Profile}
use Rattle.logic.specs.declared.Profile.TheVariants.{Strong}
use Rattle.logic.specs.Heap.{Map, Stack}
use Rattle.logic.specs.Formula.{Form}
use Rattle.logic.specs.Tests.{in_part}
use Rattle.logic.specs.Candidates.{number_of}
use Rattle.cells.specs.Cells.{cells, Barred}
use Rattle.skips.specs.Counts.{incoming, above}
use Rattle.skips.specs.Blocks.{most_outgoing}
use Rattle.skips.specs.BlockFacts.{SkippableAt}
use Rattle.rootfacts.specs.RootFacts.{cap_at, Facts}

-- more cells above j point to ℓ than the entry at ℓ allows
abbrev pub Full : List ℕ → ℕ → ℕ → ℕ → ℕ → Type 0
Full t n w j ℓ = most_outgoing j (cells w) ℓ + cap_at t ℓ < incoming n (above (suc j) (cells w)) ℓ + 1

-- a and a + 1 are in the set u
abbrev pub BothIn : ℕ → ℕ → Type 0
BothIn u a = (in_part u a ≡ true) × (in_part u (suc a) ≡ true)

-- of every formula and stack with these facts and these unnamed locations, no candidate of the block of the heap w that has the
-- digits up to j free is the lowest fit
unfoldable pub Over : List ℕ → ℕ → ℕ → ℕ → ℕ → Type 0
Over t u n w j =
    (π : Profile) (v p : ℕ) (F : Form) (s : Map) → Stack v n s → Barred Strong v n s u → Facts n F s t → SkippableAt π v n p F (number_of v n s (cells w)) j
