-- Laws of the counts of parents: one use more, one node more, and how large a count can be. Assumes nothing.
use Rattle.std.specs.Prelude.{◌≡◌, refl, Bool, true, false, List, ℕ, zero, suc, ◌+◌, ◌*◌, ◌<◌, ◌≤◌, eqb, length, get_or, set, replicate}
use Rattle.std.proofs.Common.{◌∙◌, arith, get_or-set_same, get_or-set_other, eq-eqb, ne_eqb}
use Rattle.std.proofs.Math.Decide.{ℕ_discrete}
use Rattle.logic.specs.Tests.{andb, pick}
use Rattle.logic.specs.Table.{op_of, operand_of, kind_of, uses}
use Rattle.uses.specs.Counts.{OneMore, NodeMore}
use Rattle.logic.proofs.TableLaws.{child_on, no_child_on, atom_uses, a_is_child, b_is_child, b_of_8}

pub one_more : (t : List ℕ) (x i : ℕ) → i ≡ x → x < length t → OneMore t x (set t i (get_or t i 0 + 1))
one_more t x i e l k = go (ℕ_discrete x k)
  where
    go : Dec (x ≡ k) → get_or (set t i (get_or t i 0 + 1)) k 0 ≡ get_or t k 0 + pick (eqb x k) 1 0
    go (yes q) =
        let z : k ≡ i = omega arith in
        rw (eq-eqb x k q, z) (get_or-set_same t i (get_or t i 0 + 1) 0 (omega arith))
    go (no q) = rw (ne_eqb x k q) (get_or-set_other t i k (get_or t i 0 + 1) 0 (λ (z : k ≡ i). q (omega arith)) ∙ omega arith)

module _ (f : List ℕ) (j : ℕ) (t : List ℕ) where
  pub atom_more : op_of f j ≤ 4 → NodeMore f j t t
  atom_more l k = omega (arith, atom_uses f j k 0 l, atom_uses f j k 1 l)

  pub not_more : op_of f j ≡ 8 → (u : List ℕ) → OneMore t (operand_of f j 0) u → NodeMore f j t u
  not_more e u q k =
      let first = child_on f j k 0 (a_is_child (op_of f j) (omega arith)) in
      let second = no_child_on f j k 1 (λ z. omega (arith, b_of_8 (op_of f j) e)) in
      omega (arith, q k, first, second)

  pub join_more : 5 ≤ op_of f j → ¬ (op_of f j ≡ 8) → (u w : List ℕ) → OneMore t (operand_of f j 0) u → OneMore u (operand_of f j 1) w → NodeMore f j t w
  join_more l n u w q r k =
      let first = child_on f j k 0 (a_is_child (op_of f j) l) in
      let second = child_on f j k 1 (b_is_child (op_of f j) l n) in
      omega (arith, q k, r k, first, second)

-- a node uses another twice at most
pick_one : (b : Bool) → pick b 1 0 ≤ 1
pick_one true = omega arith
pick_one false = omega arith

pub uses_le : (f : List ℕ) (j k : ℕ) → uses f j k ≤ 2 * j
unfolding uses
uses_le f zero k = omega arith
uses_le f (suc j) k =
    omega (arith, uses_le f j k, pick_one (andb (eqb (kind_of (op_of f j) 0) 2) (eqb (operand_of f j 0) k)), pick_one (andb (eqb (kind_of (op_of f j) 1) 2) (eqb (operand_of f j 1) k)))

-- once more leaves room in a byte
pub one_more_low : (t u : List ℕ) (x : ℕ) → OneMore t x u → (k b : ℕ) → get_or t k 0 ≤ b → get_or u k 0 ≤ suc b
one_more_low t u x q k b l = omega (arith, q k, pick_one (eqb x k))

-- no node is counted yet
pub none_counted : (f : List ℕ) (n k : ℕ) → get_or (replicate n 0) k 0 ≡ uses f 0 k
unfolding uses
none_counted f zero k = refl
none_counted f (suc n) zero = refl
none_counted f (suc n) (suc k) = none_counted f n k
