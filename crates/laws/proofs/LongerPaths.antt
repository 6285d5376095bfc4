-- Raising p never loses a model, whatever the formula. Assumes nothing.
use Rattle.std.specs.Prelude.{ℕ, ◌≤◌}
use Rattle.std.proofs.Common.{arith}
use Rattle.logic.specs.declared.Profile.{Profile}
use Rattle.logic.specs.Heap.{Map}
use Rattle.logic.specs.Formula.{Form}
use Rattle.logic.specs.Model.{Fits}

-- "raising p never loses a model either"
pub fits_longer : (π : Profile) (v n p p' : ℕ) (F : Form) (s h : Map) → p ≤ p' → Fits π v n p F s h → Fits π v n p' F s h
fits_longer π v n p p' F s h l q = (q.0, λ k m. q.1 k (omega arith))
