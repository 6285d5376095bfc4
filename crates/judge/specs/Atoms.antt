-- The truth of an atom, from what the tests on packed heaps say. Assumes nothing.
use Rattle.std.specs.Prelude.{◌≡◌, Bool, false, List, ℕ, suc, ◌≤◌}
use Rattle.std.proofs.Math.Path.{sym}
use Rattle.std.proofs.Common.{subst, ◌∙◌, arith}
use Rattle.logic.specs.Heap.{Map, Heap, Empty}
use Rattle.logic.specs.Formula.{Form}
use Rattle.logic.specs.Holds.{Points, Segment, Holds}
use Rattle.logic.specs.Table.{op_of, operand_of, atom_of, tree}
use Rattle.logic.proofs.TruthHolds.{truth_holds}
use Rattle.logic.specs.Reflect.{Is}
use Rattle.logic.proofs.Reflect.{is_same, false_true, is_iff}
use Rattle.cells.specs.Cells.{most}
use Rattle.judge.specs.declared.Setting.{Setting}
use Rattle.judge.specs.Setting.{stack_of, Ready, truth_at}
use Rattle.logic.proofs.NodeLaws.{atom_operands, tree_atom}

module _ (f : List ℕ) (b : Setting) (k : ℕ) (rd : Ready f b k) (l : op_of f k ≤ 4) where
  pub variables : (operand_of f k 0 ≤ most) × (operand_of f k 1 ≤ most)
  variables =
      let q = atom_operands b.vars f k (rd.sound k (omega arith)) l in
      (omega (arith, q.0, rd.few_vars), omega (arith, q.1, rd.few_vars))

  -- the operands' locations are x and y
  module _ (x y : ℕ) (ex : x ≡ stack_of b (operand_of f k 0)) (ey : y ≡ stack_of b (operand_of f k 1)) where
    pub locations : (x ≤ most) × (y ≤ most)
    locations =
        (omega (arith, rd.stack.low (operand_of f k 0), rd.few_locs), omega (arith, rd.stack.low (operand_of f k 1), rd.few_locs))

    module _ (h : Map) (kh : Heap b.locs h) (r : Bool) where
      by_holds : Is r (Holds b.profile b.vars b.locs (atom_of (op_of f k) (operand_of f k 0) (operand_of f k 1)) (stack_of b) h) → r ≡ truth_at f b k h
      by_holds q =
          is_same r (truth_at f b k h) q
          (subst (λ (F : Form). Is (truth_at f b k h) (Holds b.profile b.vars b.locs F (stack_of b) h)) (tree_atom b.vars f (suc k) rd.sound k l)
          (truth_holds b.profile b.vars b.locs (stack_of b) rd.stack.low (tree f k) h kh))

      pub same_there : op_of f k ≡ 1 → x ≡ y → Is r (Empty h) → r ≡ truth_at f b k h
      unfolding Holds atom_of
      same_there e q i = by_holds (rw e (is_iff i (λ z. (sym ex ∙ q ∙ ey, z)) (λ z. z.1)))

      pub same_elsewhere : op_of f k ≡ 1 → ¬ (x ≡ y) → r ≡ false → r ≡ truth_at f b k h
      unfolding Holds atom_of
      same_elsewhere e q z = by_holds (rw e (record { to = λ t. false_true (sym z ∙ t); from = λ i. absurd (q (ex ∙ i.0 ∙ sym ey)) }))

      pub diff_there : op_of f k ≡ 2 → x ≡ y → r ≡ false → r ≡ truth_at f b k h
      unfolding Holds atom_of
      diff_there e q z = by_holds (rw e (record { to = λ t. false_true (sym z ∙ t); from = λ i. absurd (i.0 (sym ex ∙ q ∙ ey)) }))

      pub diff_elsewhere : op_of f k ≡ 2 → ¬ (x ≡ y) → Is r (Empty h) → r ≡ truth_at f b k h
      unfolding Holds atom_of
      diff_elsewhere e q i = by_holds (rw e (is_iff i (λ z. (λ o. q (ex ∙ o ∙ sym ey), z)) (λ z. z.1)))

      pub points_to : op_of f k ≡ 3 → Is r (Points x y h) → r ≡ truth_at f b k h
      unfolding Holds atom_of
      points_to e i = by_holds (rw (e, ← ex, ← ey) i)

      -- the operator is none of the others
      pub list_from : ¬ (op_of f k ≡ 1) → ¬ (op_of f k ≡ 2) → ¬ (op_of f k ≡ 3) → Is r (Segment x y h) → r ≡ truth_at f b k h
      unfolding Holds atom_of
      list_from n1 n2 n3 i = let e : op_of f k ≡ 4 = omega (arith, (rd.sound k (omega arith)).operator) in by_holds (rw (e, ← ex, ← ey) i)
