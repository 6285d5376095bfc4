-- Laws of the way from stack to stack. Assumes nothing.
use Rattle.std.specs.Prelude.{◌≡◌, List, ℕ, suc, ◌+◌, ◌<◌, ◌≤◌, Option, None, Some, IfSome, is_some, true, false, min}
use Rattle.std.proofs.Common.{sym, subst, subst₂, arith}
use Rattle.logic.specs.declared.Profile.{Profile}
use Rattle.logic.specs.Formula.{Form}
use Rattle.logic.specs.Table.{Sound}
use Rattle.logic.specs.Candidates.{total}
use Rattle.logic.specs.Search.{CandidateFits}
use Rattle.logic.proofs.Reflect.{false_true}
use Rattle.judge.specs.Setting.{room}
use Rattle.candidates.specs.declared.Candidate.{Candidate}
use Rattle.candidates.specs.Counter.{WithinBounds, number, Passes}
use Rattle.levels.specs.Levels.{OutOfOrder}
use Rattle.skips.specs.Ranges.{Passed}
use Rattle.skips.specs.Blocks.{weight, after}
use Rattle.skips.proofs.BlockLaws.{weight_some}
use Rattle.sweep.specs.declared.Found.{Found}
use Rattle.sweep.specs.Sweep.{low_of, Going, Given}
use Rattle.sweep.specs.SweepLaws.{going_on}
use Rattle.sweep.specs.StartLaws.{label_passed}

module _ (π : Profile) (v n p : ℕ) (F : Form) (from to i : ℕ) (c : Candidate) (g : Going v n (CandidateFits π v n p F) from to i c) (l : i < to) where
  -- what the way through the stack of candidate c asks, up to m
  pub stack_ready : (f : List ℕ) (k : ℕ) → k < room → Sound v f (suc k) → (x : Option ℕ) → IfSome x (λ y. (y < v) × OutOfOrder c.stack v y) → (m : ℕ) → m ≤ after (weight n (n + low_of x)) i → m ≤ total v n → (k < room) × Sound c.vars f (suc k) × WithinBounds c × (number c ≡ i) × IfSome x (λ y. (y < c.vars) × OutOfOrder c.stack c.vars y) × (m ≤ after (weight c.locs (c.locs + low_of x)) i) × (m ≤ total c.vars c.locs)
  stack_ready f k lk sound x o m h t =
      subst₂ (λ (y z : ℕ). (k < room) × Sound y f (suc k) × WithinBounds c × (number c ≡ i) × IfSome x (λ u. (u < y) × OutOfOrder c.stack y u) × (m ≤ after (weight z (z + low_of x)) i) × (m ≤ total y z))
      (sym g.vars) (sym g.locs) (lk, sound, g.range, g.number_is l, o, h, t)

  -- what it gives back
  pub piece_of : (m : ℕ) (r : Option Found) → Given c.vars c.locs (CandidateFits π c.vars c.locs p F) i m r → Given v n (CandidateFits π v n p F) i m r
  piece_of m r q = subst₂ (λ (y z : ℕ). Given y z (CandidateFits π y z p F) i m r) g.vars g.locs q

  -- a stack with a variable out of order is passed, up to m
  pub label_over : (x : Option ℕ) → is_some x ≡ true → IfSome x (λ y. (y < v) × OutOfOrder c.stack v y) → (m : ℕ) → m ≤ after (weight n (n + low_of x)) i → Passed (CandidateFits π v n p F) (total v n) i m
  label_over None e o m t = false_true e
  label_over (Some x) e o m t =
      subst₂ (λ (y z : ℕ). x < y → OutOfOrder c.stack y x → m ≤ after (weight z (z + x)) i → Passed (CandidateFits π y z p F) (total y z) i m)
      g.vars g.locs (label_passed π p F c g.range i m (g.number_is l) x) o.0 o.1 t

  -- the block of the stack is passed
  pub stack_over : (x : Option ℕ) (m next : ℕ) → Passed (CandidateFits π v n p F) (total v n) i m → next ≡ after (weight n (n + low_of x)) i → min next to ≤ m → to ≤ total v n → (d : Candidate) → Passes (weight c.locs (c.locs + low_of x)) c d → Going v n (CandidateFits π v n p F) from to next d
  stack_over x m next passed w all t d z =
      going_on v n (CandidateFits π v n p F) from to i c g l (weight n (n + low_of x)) next d (weight_some n (n + low_of x)) t
      (subst (λ (y : ℕ). Passes (weight y (y + low_of x)) c d) g.locs z) w
      (λ k a b h. passed k a (omega (arith, all)))
