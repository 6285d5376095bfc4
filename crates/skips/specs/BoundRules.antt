-- What proofs/BoundRules speaks of. Assumes nothing: these are definitions.
use Rattle.std.specs.Prelude.{ℕ, ◌+◌, ◌≤◌}
use Rattle.logic.specs.Heap.{Map}
use Rattle.logic.specs.Formula.{Form}
use Rattle.skips.specs.Counts.{incoming, outgoing}
use Rattle.skips.specs.Facts.{May, cap_of, need_of}

-- ---- the facts of a node hold on every heap on which it does

pub record FactsAt (n : ℕ) (F : Form) (s h : Map) (ℓ : ℕ) : Type 0 where
  pub digit : May n s ℓ F (h ℓ)
  pub in_most : incoming n h ℓ + 1 ≤ outgoing h ℓ + cap_of n s ℓ F
  pub out_most_is : outgoing h ℓ + 1 ≤ incoming n h ℓ + need_of n s ℓ F
