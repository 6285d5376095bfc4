-- Laws of nodes: a sound table's operands, and the formula that a node stands for. Assumes nothing.
use Rattle.std.specs.Prelude.{◌≡◌, List, eqb, leb}
use Rattle.std.proofs.Common.{sym, ◌∙◌, ap₂, not-suc-le-zero, eq-or-lt_of_le, le_of_suc-le-suc, arith, eq-eqb, ne_eqb, le-leb}
use Rattle.std.proofs.Math.Path.{ap}
use Rattle.std.proofs.Math.Logic.{⊎_elim}
use Prim.Native.Nat.{ℕ, zero, suc, ◌<◌, ◌≤◌}
use Rattle.std.proofs.Math.Decide.{dec_le, ℕ_discrete}
use Rattle.std.proofs.lemmas.Bool.{lt-leb}
use Rattle.logic.specs.Formula.{Form}
use Rattle.logic.specs.Tests.{andb, pick}
use Rattle.logic.specs.Table.{op_of, operand_of, kind_of, Operand, NodeOk, Sound, atom_of, join_of, form_of, pick_form, deep, tree}

-- ---- operands
module _ (v : ℕ) (f : List ℕ) (k : ℕ) (ok : NodeOk v f k) where
  -- an atom's are variables
  pub atom_operands : op_of f k ≤ 4 → (operand_of f k 0 ≤ v) × (operand_of f k 1 ≤ v)
  unfolding kind_of Operand
  atom_operands l = rw (le-leb (op_of f k) 4 l) at ok.operands

  -- a connective's are lower nodes; operator 8 has 0 for b, and 0 is lower than a node that has a child
  pub child_operands : 5 ≤ op_of f k → (operand_of f k 0 < k) × (operand_of f k 1 < k)
  unfolding kind_of Operand
  child_operands l = go (ℕ_discrete (op_of f k) 8) (rw (lt-leb (op_of f k) 4 l) at ok.operands)
    where
      go : Dec (op_of f k ≡ 8) → Operand v k (pick (andb (eqb (op_of f k) 8) (eqb 0 1)) 0 2) (operand_of f k 0) × Operand v k (pick (andb (eqb (op_of f k) 8) (eqb 1 1)) 0 2) (operand_of f k 1) → (operand_of f k 0 < k) × (operand_of f k 1 < k)
      go (yes e) q = let o = rw (eq-eqb (op_of f k) 8 e) at q in (o.0, omega (arith, o.0, o.1))
      go (no n) q = rw (ne_eqb (op_of f k) 8 n) at q

-- ---- the formula of a node
same_form : (o x y : ℕ) (g h : ℕ → Form) → (5 ≤ o → g x ≡ h x) → (5 ≤ o → g y ≡ h y) → form_of o x y g ≡ form_of o x y h
unfolding form_of
same_form o x y g h p q = go (dec_le o 4)
  where
    go : Dec (o ≤ 4) → pick_form (leb o 4) (atom_of o x y) (join_of o (g x) (g y)) ≡ pick_form (leb o 4) (atom_of o x y) (join_of o (h x) (h y))
    go (yes l) = rw (le-leb o 4 l)
    go (no l) = let m : 5 ≤ o = omega arith in rw (p m, q m)

module _ (v : ℕ) (f : List ℕ) (n : ℕ) (ok : Sound v f n) where
  -- one level more changes nothing, where there are levels enough
  deep_more : (d k : ℕ) → k < d → k < n → deep f (suc d) k ≡ deep f d k
  unfolding deep
  deep_more zero k l h = absurd (not-suc-le-zero l)
  deep_more (suc d) k l h =
      same_form (op_of f k) (operand_of f k 0) (operand_of f k 1) (deep f (suc d)) (deep f d)
      (λ j. let a : operand_of f k 0 < k = (child_operands v f k (ok k h) j).0 in deep_more d (operand_of f k 0) (omega arith) (omega arith))
      (λ j. let a : operand_of f k 1 < k = (child_operands v f k (ok k h) j).1 in deep_more d (operand_of f k 1) (omega arith) (omega arith))

  deep_tree : (d k : ℕ) → k < d → k < n → deep f d k ≡ tree f k
  unfolding tree
  deep_tree zero k l h = absurd (not-suc-le-zero l)
  deep_tree (suc d) k l h =
      ⊎_elim (λ (e : k ≡ d). ap (λ (j : ℕ). deep f (suc j) k) (sym e))
      (λ (m : k < d). deep_more d k m h ∙ deep_tree d k m h) (eq-or-lt_of_le (le_of_suc-le-suc l))

  pub tree_atom : (k : ℕ) → op_of f k ≤ 4 → tree f k ≡ atom_of (op_of f k) (operand_of f k 0) (operand_of f k 1)
  unfolding tree deep form_of
  tree_atom k l = rw (le-leb (op_of f k) 4 l)

  pub tree_join : (k : ℕ) → k < n → 5 ≤ op_of f k → tree f k ≡ join_of (op_of f k) (tree f (operand_of f k 0)) (tree f (operand_of f k 1))
  unfolding tree deep form_of
  tree_join k h l =
      let o = child_operands v f k (ok k h) l in
      let a : operand_of f k 0 < k = o.0 in
      let b : operand_of f k 1 < k = o.1 in
      rw (lt-leb (op_of f k) 4 l) (ap₂ (join_of (op_of f k)) (deep_tree k (operand_of f k 0) a (omega arith)) (deep_tree k (operand_of f k 1) b (omega arith)))
