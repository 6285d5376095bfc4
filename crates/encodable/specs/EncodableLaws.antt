-- Which formulas can be encoded, from a node's operator and its children. Assumes nothing.
use Rattle.std.specs.Prelude.{◌≡◌, refl, Bool, true, false, List, ◌↔◌, ℕ, ◌<◌, ◌≤◌}
use Rattle.std.proofs.Math.Decide.{ℕ_discrete}
use Rattle.std.proofs.Common.{arith}
use Rattle.logic.specs.Formula.{Form}
use Rattle.logic.specs.Reflect.{Is}
use Rattle.logic.proofs.Reflect.{is_iff, false_true, fails}
use Rattle.logic.specs.Table.{op_of, operand_of, atom_of, join_of, join_from5, tree}
use Rattle.logic.specs.Book.{nodes, Known}
use Rattle.rows.specs.Table.{Flat, Encodable}
use Rattle.logic.proofs.Operators.{each_atom, each_join}
use Rattle.logic.proofs.KnownLaws.{operator_some, atom_tree, join_tree}

is_yes : {P : Type 0} → P → Is true P
is_yes p = record { to = λ e. p; from = λ q. refl }

is_no : {P : Type 0} → (¬ P) → Is false P
is_no n = record { to = λ e. false_true e; from = λ p. absurd (n p) }

pub flat_atoms : (o x y : ℕ) → 1 ≤ o → o ≤ 4 → Flat (atom_of o x y)
unfolding Flat atom_of
flat_atoms o x y = each_atom (λ o. Flat (atom_of o x y)) tt tt tt tt o

encodable_atoms : (o x y : ℕ) → 1 ≤ o → o ≤ 4 → Encodable (atom_of o x y)
unfolding Encodable atom_of
encodable_atoms o x y = each_atom (λ o. Encodable (atom_of o x y)) tt tt tt tt o

-- ---- what a connective asks of its children

module _ (a b : Form) where
  flat_join : (o : ℕ) → 5 ≤ o → o ≤ 10 → o ≤ 7 → Flat (join_of o a b) ↔ (Flat a × Flat b)
  unfolding Flat join_of join_from5
  flat_join =
      each_join (λ o. o ≤ 7 → Flat (join_of o a b) ↔ (Flat a × Flat b))
      (λ l. (λ q. q, λ q. q)) (λ l. (λ q. q, λ q. q)) (λ l. (λ q. q, λ q. q)) (λ l. absurd (omega arith)) (λ l. absurd (omega arith)) (λ l. absurd (omega arith))

  flat_not : (o : ℕ) → o ≡ 8 → Flat (join_of o a b) ↔ Flat a
  unfolding Flat join_of join_from5
  flat_not o e = rw e (λ q. q, λ q. q)

  flat_never : (o : ℕ) → 5 ≤ o → o ≤ 10 → 9 ≤ o → ¬ Flat (join_of o a b)
  unfolding Flat join_of join_from5
  flat_never =
      each_join (λ o. 9 ≤ o → ¬ Flat (join_of o a b))
      (λ l. absurd (omega arith)) (λ l. absurd (omega arith)) (λ l. absurd (omega arith)) (λ l. absurd (omega arith)) (λ l q. q) (λ l q. q)

  encodable_join : (o : ℕ) → 5 ≤ o → o ≤ 10 → ¬ (o ≡ 7) → ¬ (o ≡ 8) → Encodable (join_of o a b) ↔ (Encodable a × Encodable b)
  unfolding Encodable join_of join_from5
  encodable_join =
      each_join (λ o. ¬ (o ≡ 7) → ¬ (o ≡ 8) → Encodable (join_of o a b) ↔ (Encodable a × Encodable b))
      (λ n m. (λ q. q, λ q. q)) (λ n m. (λ q. q, λ q. q)) (λ n m. absurd (n refl)) (λ n m. absurd (m refl)) (λ n m. (λ q. q, λ q. q)) (λ n m. (λ q. q, λ q. q))

  encodable_but : (o : ℕ) → o ≡ 7 → Encodable (join_of o a b) ↔ (Encodable a × Flat b)
  unfolding Encodable join_of join_from5
  encodable_but o e = rw e (λ q. q, λ q. q)

  encodable_not : (o : ℕ) → o ≡ 8 → Encodable (join_of o a b) ↔ Flat a
  unfolding Encodable join_of join_from5
  encodable_not o e = rw e (λ q. q, λ q. q)

-- two parts, of which the first holds, and of which it does not
is_second : (r : Bool) {P Q R : Type 0} → R ↔ (P × Q) → P → Is r Q → Is r R
is_second r i p j = is_iff j (λ q. i.1 (p, q)) (λ x. (i.0 x).1)

is_none : {P Q R : Type 0} → R ↔ (P × Q) → (¬ P) → Is false R
is_none i n = is_no (λ x. n (i.0 x).0)

-- ---- a node's

module _ (v : ℕ) (f : List ℕ) (w : Known v f) (k x y : ℕ) (h : k < nodes f) (ex : x ≡ operand_of f k 0) (ey : y ≡ operand_of f k 1) where
  some : 1 ≤ op_of f k
  some = (operator_some v f w k x y h).0

  last : op_of f k ≤ 10
  last = (operator_some v f w k x y h).1

  pub flat_atom : op_of f k ≤ 4 → Is true (Flat (tree f k))
  flat_atom l = rw (atom_tree v f w k x y h ex ey l) (is_yes (flat_atoms (op_of f k) x y some l))

  pub encodable_atom : op_of f k ≤ 4 → Is true (Encodable (tree f k))
  encodable_atom l = rw (atom_tree v f w k x y h ex ey l) (is_yes (encodable_atoms (op_of f k) x y some l))

  module _ (l : 5 ≤ op_of f k) where
    as_join : (P : Form → Type 0) → P (join_of (op_of f k) (tree f x) (tree f y)) → P (tree f k)
    as_join P q = rw (join_tree v f w k x y h ex ey l) q

    pub flat_deep : 9 ≤ op_of f k → Is false (Flat (tree f k))
    flat_deep m = as_join (λ F. Is false (Flat F)) (is_no (flat_never (tree f x) (tree f y) (op_of f k) l last m))

    pub flat_first : (r : Bool) → op_of f k ≤ 7 → Is r (Flat (tree f x)) → r ≡ false → Is false (Flat (tree f k))
    flat_first r m i e = as_join (λ F. Is false (Flat F)) (is_none (flat_join (tree f x) (tree f y) (op_of f k) l last m) (fails r i e))

    pub flat_under : (r : Bool) → op_of f k ≡ 8 → Is r (Flat (tree f x)) → Is r (Flat (tree f k))
    flat_under r m i =
        let j = flat_not (tree f x) (tree f y) (op_of f k) m in
        as_join (λ F. Is r (Flat F)) (is_iff i j.1 j.0)

    pub flat_second : (r q : Bool) → op_of f k ≤ 7 → Is r (Flat (tree f x)) → r ≡ true → Is q (Flat (tree f y)) → Is q (Flat (tree f k))
    flat_second r q m i e j = as_join (λ F. Is q (Flat F)) (is_second q (flat_join (tree f x) (tree f y) (op_of f k) l last m) (i.to e) j)

    pub encodable_under : (r : Bool) → op_of f k ≡ 8 → Is r (Flat (tree f x)) → Is r (Encodable (tree f k))
    encodable_under r m i =
        let j = encodable_not (tree f x) (tree f y) (op_of f k) m in
        as_join (λ F. Is r (Encodable F)) (is_iff i j.1 j.0)

    pub encodable_first : (r : Bool) → ¬ (op_of f k ≡ 8) → Is r (Encodable (tree f x)) → r ≡ false → Is false (Encodable (tree f k))
    encodable_first r m i e = as_join (λ F. Is false (Encodable F)) (go (ℕ_discrete (op_of f k) 7))
      where
        go : Dec (op_of f k ≡ 7) → Is false (Encodable (join_of (op_of f k) (tree f x) (tree f y)))
        go (yes d) = is_none (encodable_but (tree f x) (tree f y) (op_of f k) d) (fails r i e)
        go (no d) = is_none (encodable_join (tree f x) (tree f y) (op_of f k) l last d m) (fails r i e)

    pub encodable_guarded : (r q : Bool) → op_of f k ≡ 7 → Is r (Encodable (tree f x)) → r ≡ true → Is q (Flat (tree f y)) → Is q (Encodable (tree f k))
    encodable_guarded r q d i e j = as_join (λ F. Is q (Encodable F)) (is_second q (encodable_but (tree f x) (tree f y) (op_of f k) d) (i.to e) j)

    pub encodable_second : (r q : Bool) → ¬ (op_of f k ≡ 7) → ¬ (op_of f k ≡ 8) → Is r (Encodable (tree f x)) → r ≡ true → Is q (Encodable (tree f y)) → Is q (Encodable (tree f k))
    encodable_second r q d m i e j =
        as_join (λ F. Is q (Encodable F)) (is_second q (encodable_join (tree f x) (tree f y) (op_of f k) l last d m) (i.to e) j)
