-- The computed truth is true exactly where the declarative one holds, for every formula, stack and heap in range. Assumes
-- nothing.
use Rattle.std.specs.Prelude.{not, ℕ, ◌≤◌, eqb}
use Rattle.logic.specs.declared.Profile.{Profile}
use Rattle.logic.specs.Heap.{Map, Heap}
use Rattle.logic.specs.Formula.{Form}
use Rattle.logic.specs.Formula.Form.{same, diff, pts, ls, conj, disj, but, neg, sep, sept}
use Rattle.logic.specs.Holds.{Holds}
use Rattle.logic.specs.Tests.{empty}
use Rattle.logic.specs.Truth.{truth}
use Rattle.logic.specs.Reflect.{Is}
use Rattle.logic.proofs.Reflect.{is_eq, is_and, is_or, is_not}
use Rattle.logic.proofs.Agree.{is_empty, is_points, is_sep, is_sept}
use Rattle.logic.proofs.Chains.{is_segment}

module _ (π : Profile) (v n : ℕ) (s : Map) (low : (x : ℕ) → s x ≤ n) where
  pub truth_holds : (F : Form) (h : Map) → Heap n h → Is (truth π v n F s h) (Holds π v n F s h)
  unfolding truth Holds
  truth_holds (same x y) h k = is_and (eqb (s x) (s y)) (empty n h) (is_eq (s x) (s y)) (is_empty n h k)
  truth_holds (diff x y) h k = is_and (not (eqb (s x) (s y))) (empty n h) (is_not (eqb (s x) (s y)) (is_eq (s x) (s y))) (is_empty n h k)
  truth_holds (pts x y) h k = is_points n (s x) (s y) h (low x) k
  truth_holds (ls x y) h k = is_segment n (s x) (s y) h k
  truth_holds (conj a b) h k = is_and (truth π v n a s h) (truth π v n b s h) (truth_holds a h k) (truth_holds b h k)
  truth_holds (disj a b) h k = is_or (truth π v n a s h) (truth π v n b s h) (truth_holds a h k) (truth_holds b h k)
  truth_holds (but a b) h k = is_and (truth π v n a s h) (not (truth π v n b s h)) (truth_holds a h k) (is_not (truth π v n b s h) (truth_holds b h k))
  truth_holds (neg a) h k = is_not (truth π v n a s h) (truth_holds a h k)
  truth_holds (sep a b) h k =
      is_sep π v n s (truth π v n a s) (truth π v n b s) (Holds π v n a s) (Holds π v n b s) (truth_holds a) (truth_holds b) h k
  truth_holds (sept a b) h k =
      is_sept π v n s (truth π v n a s) (truth π v n b s) (Holds π v n a s) (Holds π v n b s) (truth_holds a) (truth_holds b) h k
