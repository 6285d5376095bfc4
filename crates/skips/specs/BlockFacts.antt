-- What proofs/BlockFacts speaks of. Assumes nothing: these are definitions.
use Prim.Native.Nat.{ℕ}
use Rattle.logic.specs.declared.Profile.{Profile}
use Rattle.logic.specs.Formula.{Form}
use Rattle.logic.specs.Candidates.{total}
use Rattle.logic.specs.Search.{CandidateFits}
use Rattle.skips.specs.Blocks.{weight, Skippable}

module _ (π : Profile) (v n p : ℕ) (F : Form) (i : ℕ) where
  -- no candidate of the block of i that has j digits free is the lowest that fits
  abbrev pub SkippableAt : ℕ → Type 0
  SkippableAt j = Skippable (CandidateFits π v n p F) (total v n) (weight n j) i
