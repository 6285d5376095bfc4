-- The facts of a node of a table, from its operator. Assumes nothing.
use Rattle.std.specs.Prelude.{◌≡◌, List, ℕ, suc, ◌<◌, ◌≤◌}
use Rattle.std.proofs.Common.{sym, arith}
use Rattle.std.proofs.Math.Path.{subst}
use Rattle.logic.specs.declared.Profile.{Profile}
use Rattle.logic.specs.Formula.{Form}
use Rattle.logic.specs.Table.{op_of, operand_of, atom_of, join_of, join_from5, tree}
use Rattle.logic.proofs.NodeLaws.{atom_operands, child_operands, tree_atom, tree_join}
use Rattle.cells.specs.Cells.{most, cells}
use Rattle.facts.specs.declared.fact.Fact.{Fact}
use Rattle.facts.specs.Known.{Known, JoinedAs, AnyAs}
use Rattle.atomfacts.specs.Atoms.{AtomAs}
use Rattle.facts.specs.OperatorLaws.{but_known}
use Rattle.rootfacts.specs.NodeFacts.{Readable, KnownAt}

module _ (f : List ℕ) (k n s : ℕ) (rd : Readable f k n s) where
  pub operator_is : (1 ≤ op_of f k) × (op_of f k ≤ 10)
  operator_is = let q = (rd.sound k (omega arith)).operator in (omega (arith, q), omega (arith, q))

  -- a node without facts of its own
  pub any_known : (ℓ : ℕ) (r : Fact) → AnyAs n r → KnownAt f k n s ℓ r
  any_known ℓ r q = record { known = λ π v. q.known π v (tree f k) (cells s) ℓ }

  module _ (l : op_of f k ≤ 4) where
    pub variables : (operand_of f k 0 ≤ most) × (operand_of f k 1 ≤ most)
    variables =
        let q = atom_operands rd.vars f k (rd.sound k (omega arith)) l in
        (omega (arith, q.0, rd.few_vars), omega (arith, q.1, rd.few_vars))

    module _ (x y : ℕ) (ex : x ≡ cells s (operand_of f k 0)) (ey : y ≡ cells s (operand_of f k 1)) where
      pub locations : (x ≤ n) × (y ≤ n)
      locations = (omega (arith, rd.stack.low (operand_of f k 0)), omega (arith, rd.stack.low (operand_of f k 1)))

      pub atom_known : (ℓ : ℕ) (r : Fact) → AtomAs (atom_of (op_of f k)) n ℓ x y r → KnownAt f k n s ℓ r
      atom_known ℓ r q =
          record {
            known = λ π v. subst (λ (F : Form). Known π v n F (cells s) ℓ r) (sym (tree_atom rd.vars f (suc k) rd.sound k l)) (q.known π v (cells s) (operand_of f k 0) (operand_of f k 1) (sym ex) (sym ey));
          }

  module _ (l : 5 ≤ op_of f k) where
    pub lower : (operand_of f k 0 < k) × (operand_of f k 1 < k)
    lower = child_operands rd.vars f k (rd.sound k (omega arith)) l

    pub readable_below : (x : ℕ) → x < k → Readable f x n s
    readable_below x m =
        record {
          vars = rd.vars;
          inside = omega (arith, rd.inside);
          sound = λ j h. rd.sound j (omega arith);
          few_vars = rd.few_vars;
          few_locs = rd.few_locs;
          stack = rd.stack;
        }

    pub join_known : (x y ℓ : ℕ) (a b r : Fact) → JoinedAs (join_of (op_of f k)) a b r → x ≡ operand_of f k 0 → y ≡ operand_of f k 1 → KnownAt f x n s ℓ a → KnownAt f y n s ℓ b → KnownAt f k n s ℓ r
    join_known x y ℓ a b r q ex ey p w =
        record {
          known = λ π v. subst (λ (F : Form). Known π v n F (cells s) ℓ r) (sym (tree_join rd.vars f (suc k) rd.sound k (omega arith) l)) (q.known π v n (tree f (operand_of f k 0)) (tree f (operand_of f k 1)) (cells s) ℓ rd.few_locs (at x 0 a ex p π v) (at y 1 b ey w π v));
        }
      where
        at : (x side : ℕ) (r : Fact) → x ≡ operand_of f k side → KnownAt f x n s ℓ r → (π : Profile) (v : ℕ) → Known π v n (tree f (operand_of f k side)) (cells s) ℓ r
        at x side r e p π v = subst (λ (j : ℕ). Known π v n (tree f j) (cells s) ℓ r) e (p.known π v)

    -- a and not b: a's facts
    pub first_known : (x ℓ : ℕ) (r : Fact) → op_of f k ≡ 7 → x ≡ operand_of f k 0 → KnownAt f x n s ℓ r → KnownAt f k n s ℓ r
    unfolding join_of join_from5
    first_known x ℓ r e ex p =
        record {
          known = λ π v. subst (λ (F : Form). Known π v n F (cells s) ℓ r) (sym (tree_join rd.vars f (suc k) rd.sound k (omega arith) l)) (rw e (but_known π v n (tree f (operand_of f k 0)) (tree f (operand_of f k 1)) (cells s) ℓ r (subst (λ (j : ℕ). Known π v n (tree f j) (cells s) ℓ r) ex (p.known π v))));
        }
