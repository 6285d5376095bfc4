-- Laws of the node table: its operands by their kind, and how often a node is used. Assumes nothing.
use Rattle.std.specs.Prelude.{◌≡◌, refl, List, eqb, leb, ltb, Bool, true, false}
use Prim.Native.Nat.{ℕ, zero, suc, ◌+◌, ◌≤◌}
use Rattle.std.proofs.Common.{add-one, eq-eqb, ne_eqb, le-leb}
use Rattle.std.proofs.lemmas.Bool.{lt-leb}
use Rattle.logic.specs.Tests.{andb, pick}
use Rattle.logic.specs.Reflect.{Is}
use Rattle.logic.proofs.Reflect.{is_eq, is_le, is_lt}
use Rattle.logic.specs.Table.{op_of, operand_of, kind_of, Operand, uses_on, uses}

module _ (v k : ℕ) where
  pub is_zero : (t x : ℕ) → t ≡ 0 → Is (eqb x 0) (Operand v k t x)
  unfolding Operand
  is_zero t x e = rw e (is_eq x 0)

  pub is_variable : (t x : ℕ) → t ≡ 1 → Is (leb x v) (Operand v k t x)
  unfolding Operand
  is_variable t x e = rw e (is_le x v)

  pub is_child : (t x : ℕ) → ¬ (t ≡ 0) → ¬ (t ≡ 1) → Is (ltb x k) (Operand v k t x)
  unfolding Operand
  is_child zero x a b = absurd (a refl)
  is_child (suc zero) x a b = absurd (b refl)
  is_child (suc (suc t)) x a b = is_lt x k

module _ (f : List ℕ) (j k side : ℕ) where
  pub child_on : kind_of (op_of f j) side ≡ 2 → uses_on f j k side ≡ pick (eqb (operand_of f j side) k) 1 0
  child_on a = rw (eq-eqb (kind_of (op_of f j) side) 2 a)

  pub not_used_on : kind_of (op_of f j) side ≡ 2 → ¬ (operand_of f j side ≡ k) → uses_on f j k side ≡ 0
  not_used_on a b = rw (eq-eqb (kind_of (op_of f j) side) 2 a, ne_eqb (operand_of f j side) k b)

  pub no_child_on : ¬ (kind_of (op_of f j) side ≡ 2) → uses_on f j k side ≡ 0
  no_child_on a = rw (ne_eqb (kind_of (op_of f j) side) 2 a)

  -- an atom has no child
  pub atom_uses : op_of f j ≤ 4 → uses_on f j k side ≡ 0
  unfolding kind_of
  atom_uses l = rw (le-leb (op_of f j) 4 l)

-- a connective's kinds: a is a child, and so is b but for operator 8
pub a_is_child : (o : ℕ) → 5 ≤ o → kind_of o 0 ≡ 2
unfolding kind_of
a_is_child o l = rw (lt-leb o 4 l) (pick_same (eqb o 8))
  where
    pick_same : (b : Bool) → pick (andb b (eqb 0 1)) 0 2 ≡ 2
    pick_same true = refl
    pick_same false = refl

pub b_is_child : (o : ℕ) → 5 ≤ o → ¬ (o ≡ 8) → kind_of o 1 ≡ 2
unfolding kind_of
b_is_child o l e = rw (lt-leb o 4 l, ne_eqb o 8 e)

pub b_of_8 : (o : ℕ) → o ≡ 8 → kind_of o 1 ≡ 0
unfolding kind_of
b_of_8 o e = rw e

module _ (f : List ℕ) (k : ℕ) where
  pub uses_more : (j : ℕ) → uses f (j + 1) k ≡ uses f j k + (uses_on f j k 0 + uses_on f j k 1)
  unfolding uses
  uses_more j = rw (add-one j)
