-- What an accepted table gives: a node's operator, operands and formula, and what adds up over the tree. Assumes nothing.
use Rattle.std.specs.Prelude.{◌≡◌, List, ℕ, suc, ◌<◌, ◌≤◌}
use Rattle.std.proofs.Common.{arith}
use Rattle.logic.specs.Table.{op_of, operand_of, atom_of, join_of, tree}
use Rattle.logic.proofs.NodeLaws.{atom_operands, child_operands, tree_atom, tree_join}
use Rattle.logic.specs.Formula.{Form}
use Rattle.logic.specs.Weight.{sum, Adds, own_at}
use Rattle.logic.proofs.Weight.{adds_up}
use Rattle.logic.specs.Book.{nodes, root, Known}

-- x and y are the node's operands, as code reads them
module _ (v : ℕ) (f : List ℕ) (w : Known v f) (k x y : ℕ) (h : k < nodes f) where
  pub operator_some : (1 ≤ op_of f k) × (op_of f k ≤ 10)
  operator_some = (w.sound k h).operator

  module _ (ex : x ≡ operand_of f k 0) (ey : y ≡ operand_of f k 1) where
    pub variables : op_of f k ≤ 4 → (x ≤ v) × (y ≤ v)
    variables l = rw (ex, ey) (atom_operands v f k (w.sound k h) l)

    pub lower : 5 ≤ op_of f k → (x < k) × (y < k)
    lower l = rw (ex, ey) (child_operands v f k (w.sound k h) l)

    pub atom_tree : op_of f k ≤ 4 → tree f k ≡ atom_of (op_of f k) x y
    atom_tree l = rw (ex, ey) (tree_atom v f (nodes f) w.sound k l)

    pub join_tree : 5 ≤ op_of f k → tree f k ≡ join_of (op_of f k) (tree f x) (tree f y)
    join_tree l = rw (ex, ey) (tree_join v f (nodes f) w.sound k h l)

module _ (v : ℕ) (f : List ℕ) (w : Known v f) where
  pub last_node : nodes f ≡ suc (root f)
  last_node = omega (arith, w.some)

  -- what adds up over the tree is the sum over the nodes
  pub counted : (W : Form → ℕ) (own : ℕ → ℕ → ℕ → ℕ) → Adds W own → W (tree f (root f)) ≡ sum (nodes f) (own_at own f)
  counted W own a = adds_up v f (nodes f) w.sound w.tree (root f) last_node W own a
