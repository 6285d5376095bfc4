-- Laws of the hunt: from what the range from 0 gives back to the answer. Assumes nothing.
use Rattle.std.specs.Prelude.{◌≡◌, None, Some, ℕ, ◌+◌, ◌<◌, ◌≤◌}
use Rattle.std.proofs.Common.{sym, subst, ap₂, arith}
use Rattle.logic.specs.Numbers.{no_number}
use Rattle.logic.specs.Candidates.{total, model_bytes, model_of}
use Rattle.logic.specs.Search.{searched, Outcome}
use Rattle.logic.proofs.SearchLaws.{outcome_found, outcome_none, outcome_spent}
use Rattle.cells.specs.Cells.{cells}
use Rattle.candidates.specs.declared.Candidate.{Candidate}
use Rattle.skips.proofs.RangeLaws.{none_below}
use Rattle.sweep.specs.declared.Found.{Found}
use Rattle.sweep.specs.Sweep.{At, Given}
use Rattle.sweep.specs.SweepLaws.{at_stack, at_heap, piece_fit, piece_passed}
use Rattle.hunt.specs.declared.Ended.{Ended}
use Rattle.hunt.specs.declared.Ended.TheVariants.{Found as Ended_found, Nothing, Spent}
use Rattle.hunt.specs.Hunt.{Hunted}

-- the bytes of a candidate are those of its number
pub at_model : (v n i : ℕ) (c : Candidate) → At v n i c → model_bytes v n (cells c.stack) (cells c.heap) ≡ model_of v n i
at_model v n i c q = sym (ap₂ (model_bytes v n) (at_stack v n i c q) (at_heap v n i c q))

-- the end under another name
pub hunted_as : (v n : ℕ) (P : ℕ → Type 0) (b : ℕ) (r x : Ended) → r ≡ x → Hunted v n P b x → Hunted v n P b r
hunted_as v n P b r x e q = subst (Hunted v n P b) (sym e) q

-- the range from 0 to e
module _ (v n : ℕ) (P : ℕ → Type 0) (b e : ℕ) where
  -- a candidate fits, within the budget
  pub hunted_found : (r : Found) → Given v n P 0 e (Some r) → e ≤ b → Hunted v n P b (Ended_found (r.number + 1) r.at)
  hunted_found r q l =
      let x = piece_fit v n P 0 e r q in
      record {
        outcome = outcome_found P (total v n) b r.number x.candidate (omega (arith, x.before)) x.fits (λ j k. none_below P (total v n) r.number x.passed j k (omega (arith, x.candidate)));
        at = subst (λ (k : ℕ). At v n k r.at) (omega arith) q.at;
      }

  module _ (q : Given v n P 0 e None) (t : ℕ) (et : t ≡ total v n) where
    below : (j : ℕ) → j < e → j < t → ¬ P j
    below j l k = none_below P (total v n) e (piece_passed v n P 0 e q) j l (omega (arith, et))

    -- the range is all, and so is the budget
    pub hunted_none : t ≤ e → t ≤ b → Hunted v n P b (Nothing t)
    hunted_none l k =
        record {
          outcome = subst (λ (x : ℕ). Outcome P (total v n) b (searched no_number x)) (sym et) (outcome_none P (total v n) b (omega arith) (λ j h. below j (omega arith) (omega arith)));
          at = tt;
        }

    -- the range is the whole budget, and there are more
    pub hunted_spent : b ≤ e → b < t → Hunted v n P b (Spent b)
    hunted_spent l k =
        record {
          outcome = outcome_spent P (total v n) b (omega arith) (λ j h. below j (omega arith) (omega arith));
          at = tt;
        }
