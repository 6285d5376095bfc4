-- From a node's truth and the length of paths to whether a heap fits. Assumes nothing.
use Rattle.std.specs.Prelude.{◌≡◌, Bool, true, false, List, ℕ}
use Rattle.logic.specs.Heap.{Map, Heap}
use Rattle.logic.specs.Paths.{NoLongPath}
use Rattle.logic.specs.Holds.{Holds}
use Rattle.logic.specs.Table.{tree}
use Rattle.logic.proofs.TruthHolds.{truth_holds}
use Rattle.logic.specs.Reflect.{Is}
use Rattle.logic.proofs.Reflect.{false_true, fails}
use Rattle.logic.specs.Model.{Fits}
use Rattle.judge.specs.declared.Setting.{Setting}
use Rattle.judge.specs.Setting.{stack_of, Ready, truth_at}

module _ (f : List ℕ) (b : Setting) (k : ℕ) (rd : Ready f b k) (h : Map) (kh : Heap b.locs h) (t : Bool) (e : t ≡ truth_at f b k h) where
  holds : Is t (Holds b.profile b.vars b.locs (tree f k) (stack_of b) h)
  holds = rw e (truth_holds b.profile b.vars b.locs (stack_of b) rd.stack.low (tree f k) h kh)

  -- the node holds: the paths decide
  pub fits_short : t ≡ true → (r : Bool) → Is r (NoLongPath b.path h) → Is r (Fits b.profile b.vars b.locs b.path (tree f k) (stack_of b) h)
  fits_short y r q = record { to = λ z. (holds.to y, q.to z); from = λ z. q.from z.1 }

  -- it doesn't
  pub fits_not : t ≡ false → Is false (Fits b.profile b.vars b.locs b.path (tree f k) (stack_of b) h)
  fits_not y = record { to = λ z. false_true z; from = λ z. absurd (fails t holds y z.0) }
