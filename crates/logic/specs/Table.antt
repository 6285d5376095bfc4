-- The node table: which tables are sound and are trees, and the formula that a node stands for. Assumes nothing: these are
-- definitions.
use Rattle.std.specs.Prelude.{◌≡◌, Bool, true, false, List, ℕ, zero, suc, ◌+◌, ◌*◌, ◌<◌, ◌≤◌, eqb, leb, get_or}
use Rattle.logic.specs.Tests.{andb, pick}
use Rattle.logic.specs.Formula.{Form}
use Rattle.logic.specs.Formula.Form.{same, diff, pts, ls, conj, disj, but, neg, sep, sept}

-- "three bytes each: operator, a, b": operator of node k, and its operand a (side 0) or b (side 1)
abbrev pub op_of : List ℕ → ℕ → ℕ
op_of f k = get_or f (3 * k) 0

abbrev pub operand_of : List ℕ → ℕ → ℕ → ℕ
operand_of f k side = get_or f (3 * k + (1 + side)) 0

-- "each operator's operand kinds": 0 is "zero", 1 "a variable", 2 "a child"
unfoldable pub kind_of : ℕ → ℕ → ℕ
kind_of o side = pick (leb o 4) 1 (pick (andb (eqb o 8) (eqb side 1)) 0 2)

-- what an operand of that kind has to be, at node k: "variable over v, child not lower, b of 8 not 0" are refused
unfoldable pub Operand : ℕ → ℕ → ℕ → ℕ → Type 0
Operand v k zero x = x ≡ 0
Operand v k (suc zero) x = x ≤ v
Operand v k (suc (suc _)) x = x < k

-- "operator not 1 to 10" is refused
abbrev pub OperatorOk : List ℕ → ℕ → Type 0
OperatorOk f k = (1 ≤ op_of f k) × (op_of f k ≤ 10)

abbrev pub OperandOk : ℕ → List ℕ → ℕ → ℕ → Type 0
OperandOk v f k side = Operand v k (kind_of (op_of f k) side) (operand_of f k side)

abbrev pub OperandsOk : ℕ → List ℕ → ℕ → Type 0
OperandsOk v f k = OperandOk v f k 0 × OperandOk v f k 1

-- the first n nodes are as they should be
pub record NodeOk (v : ℕ) (f : List ℕ) (k : ℕ) : Type 0 where
  pub operator : OperatorOk f k
  pub operands : OperandsOk v f k

abbrev pub Sound : ℕ → List ℕ → ℕ → Type 0
Sound v f n = (k : ℕ) → k < n → NodeOk v f k

-- how often node j's operand on that side is the child k: once or not at all
abbrev pub uses_on : List ℕ → ℕ → ℕ → ℕ → ℕ
uses_on f j k side = pick (andb (eqb (kind_of (op_of f j) side) 2) (eqb (operand_of f j side) k)) 1 0

-- how often the first n nodes have the child k
unfoldable pub uses : List ℕ → ℕ → ℕ → ℕ
uses f zero k = 0
uses f (suc j) k = uses f j k + (uses_on f j k 0 + uses_on f j k 1)

-- "Every other node is the child of exactly one node, once."
abbrev pub Tree : List ℕ → ℕ → Type 0
Tree f n = (k : ℕ) → suc k < n → uses f n k ≡ 1

-- operators 1 to 4, over variables. No other number is an atom's, and a sound table has none: nil = nil stands in for it
unfoldable pub atom_of : ℕ → ℕ → ℕ → Form
atom_of zero x y = same 0 0
atom_of (suc zero) x y = same x y
atom_of (suc (suc zero)) x y = diff x y
atom_of (suc (suc (suc zero))) x y = pts x y
atom_of (suc (suc (suc (suc zero)))) x y = ls x y
atom_of (suc (suc (suc (suc (suc _))))) x y = same 0 0

-- operator 5 + o, over formulas; the same
unfoldable pub join_from5 : ℕ → Form → Form → Form
join_from5 zero a b = conj a b
join_from5 (suc zero) a b = disj a b
join_from5 (suc (suc zero)) a b = but a b
join_from5 (suc (suc (suc zero))) a b = neg a
join_from5 (suc (suc (suc (suc zero)))) a b = sep a b
join_from5 (suc (suc (suc (suc (suc zero))))) a b = sept a b
join_from5 (suc (suc (suc (suc (suc (suc _)))))) a b = same 0 0

-- operators 5 to 10
unfoldable pub join_of : ℕ → Form → Form → Form
join_of zero a b = same 0 0
join_of (suc zero) a b = same 0 0
join_of (suc (suc zero)) a b = same 0 0
join_of (suc (suc (suc zero))) a b = same 0 0
join_of (suc (suc (suc (suc zero)))) a b = same 0 0
join_of (suc (suc (suc (suc (suc o))))) a b = join_from5 o a b

abbrev pub pick_form : Bool → Form → Form → Form
pick_form true a b = a
pick_form false a b = b

-- "The operator number decides, 1 to 4 atoms, 5 to 10 connectives": operator o over x and y, which are variables or nodes
unfoldable pub form_of : ℕ → ℕ → ℕ → (ℕ → Form) → Form
form_of o x y sub =
    let r = join_of o (sub x) (sub y) in
    pick_form (leb o 4) (atom_of o x y) r

-- node k's formula, read d levels deep
unfoldable pub deep : List ℕ → ℕ → ℕ → Form
deep f zero k = same 0 0
deep f (suc d) k = form_of (op_of f k) (operand_of f k 0) (operand_of f k 1) (deep f d)

-- the formula that node k stands for: "Children have lower numbers than their parent", so k + 1 levels are enough
unfoldable pub tree : List ℕ → ℕ → Form
tree f k = deep f (suc k) k
