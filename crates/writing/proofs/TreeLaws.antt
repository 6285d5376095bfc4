-- The variables of an accepted table's formula: none is over v, and those that its atoms name are the formula's. Assumes nothing.
use Rattle.std.specs.Prelude.{◌≡◌, List, ◌⊎◌, eqb}
use Rattle.std.proofs.Common.{sym, subst, ⊎_elim, le-leb}
use Rattle.std.proofs.Math.Logic.{inl, inr}
use Prim.Native.Nat.{ℕ, zero, suc, zero-le, ◌+◌, ◌-◌, ◌<◌, ◌≤◌}
use Rattle.std.proofs.Math.Decide.{dec_le, dec_lt}
use native.Mathlib.Omega.{arith}
use Rattle.logic.specs.Formula.{Form}
use Rattle.logic.proofs.Reflect.{is_and, is_eq, decided, refutes}
use Rattle.logic.specs.Tests.{andb}
use Rattle.logic.specs.Table.{op_of, operand_of, kind_of, Sound, uses_on, uses, Tree, atom_of, join_from5, join_of, tree}
use Rattle.logic.proofs.TableLaws.{b_of_8}
use Rattle.logic.proofs.NodeLaws.{atom_operands, child_operands, tree_atom, tree_join}
use Rattle.logic.specs.Book.{vars_of, formula_of, nodes, root, book_formula, Accepted, Whole}
use Rattle.logic.proofs.BookLaws.{accepted_whole}
use Rattle.logic.specs.Strays.{NamedByAtom}
use Rattle.grammar.specs.ListingLaws.{Within}
use Rattle.imported.specs.Named.{NamedIn}

-- ---- no variable is over v

atom_within : (v o x y : ℕ) → x ≤ v → y ≤ v → Within v (atom_of o x y)
unfolding Within atom_of
atom_within v zero x y p q = (zero-le, zero-le)
atom_within v (suc zero) x y p q = (p, q)
atom_within v (suc (suc zero)) x y p q = (p, q)
atom_within v (suc (suc (suc zero))) x y p q = (p, q)
atom_within v (suc (suc (suc (suc zero)))) x y p q = (p, q)
atom_within v (suc (suc (suc (suc (suc _))))) x y p q = (zero-le, zero-le)

join_within : (v o : ℕ) (a b : Form) → Within v a → Within v b → Within v (join_from5 o a b)
unfolding Within join_from5
join_within v zero a b p q = (p, q)
join_within v (suc zero) a b p q = (p, q)
join_within v (suc (suc zero)) a b p q = (p, q)
join_within v (suc (suc (suc zero))) a b p q = p
join_within v (suc (suc (suc (suc zero)))) a b p q = (p, q)
join_within v (suc (suc (suc (suc (suc zero))))) a b p q = (p, q)
join_within v (suc (suc (suc (suc (suc (suc _)))))) a b p q = (zero-le, zero-le)

-- operator 5 + o
by_five : (P : Form → Type 0) (o : ℕ) (a b : Form) → 5 ≤ o → P (join_from5 (o - 5) a b) → P (join_of o a b)
unfolding join_of
by_five P o a b l q = let e : suc (suc (suc (suc (suc (o - 5))))) ≡ o = omega arith in subst (λ (m : ℕ). P (join_of m a b)) e q

-- ---- what an atom names, and what is passed up

atom_names : (o a b x : ℕ) → 1 ≤ o → o ≤ 4 → (a ≡ x) ⊎ (b ≡ x) → NamedIn (atom_of o a b) x
unfolding NamedIn atom_of
atom_names zero a b x l h q = absurd (omega arith)
atom_names (suc zero) a b x l h q = q
atom_names (suc (suc zero)) a b x l h q = q
atom_names (suc (suc (suc zero))) a b x l h q = q
atom_names (suc (suc (suc (suc zero)))) a b x l h q = q
atom_names (suc (suc (suc (suc (suc _))))) a b x l h q = absurd (omega arith)

a_names : (o : ℕ) (a b : Form) (x : ℕ) → o ≤ 5 → NamedIn a x → NamedIn (join_from5 o a b) x
unfolding NamedIn join_from5
a_names zero a b x l q = inl q
a_names (suc zero) a b x l q = inl q
a_names (suc (suc zero)) a b x l q = inl q
a_names (suc (suc (suc zero))) a b x l q = q
a_names (suc (suc (suc (suc zero)))) a b x l q = inl q
a_names (suc (suc (suc (suc (suc zero))))) a b x l q = inl q
a_names (suc (suc (suc (suc (suc (suc _)))))) a b x l q = absurd (omega arith)

b_names : (o : ℕ) (a b : Form) (x : ℕ) → o ≤ 5 → ¬ (o ≡ 3) → NamedIn b x → NamedIn (join_from5 o a b) x
unfolding NamedIn join_from5
b_names zero a b x l n q = inr q
b_names (suc zero) a b x l n q = inr q
b_names (suc (suc zero)) a b x l n q = inr q
b_names (suc (suc (suc zero))) a b x l n q = absurd (n (omega arith))
b_names (suc (suc (suc (suc zero)))) a b x l n q = inr q
b_names (suc (suc (suc (suc (suc zero))))) a b x l n q = inr q
b_names (suc (suc (suc (suc (suc (suc _)))))) a b x l n q = absurd (omega arith)

module _ (f : List ℕ) (k : ℕ) where
  -- node j has the child k on that side
  abbrev Uses : ℕ → ℕ → Type 0
  Uses j side = (kind_of (op_of f j) side ≡ 2) × (operand_of f j side ≡ k)

  uses_on_is : (j side : ℕ) → Uses j side ⊎ (uses_on f j k side ≡ 0)
  uses_on_is j side =
      let i = is_and (eqb (kind_of (op_of f j) side) 2) (eqb (operand_of f j side) k) (is_eq (kind_of (op_of f j) side) 2) (is_eq (operand_of f j side) k) in
      ⊎_elim inl (λ n. inr (rw (refutes (andb (eqb (kind_of (op_of f j) side) 2) (eqb (operand_of f j side) k)) i n)))
      (decided (andb (eqb (kind_of (op_of f j) side) 2) (eqb (operand_of f j side) k)) i)

  used_by_is : (n : ℕ) → 1 ≤ uses f n k → (j : ℕ) × (j < n) × (Uses j 0 ⊎ Uses j 1)
  unfolding uses
  used_by_is zero l = absurd (omega arith)
  used_by_is (suc n) l = go (dec_le 1 (uses f n k)) (used_by_is n) (uses_on_is n 0) (uses_on_is n 1)
    where
      go : Dec (1 ≤ uses f n k) → (1 ≤ uses f n k → (j : ℕ) × (j < n) × (Uses j 0 ⊎ Uses j 1)) → Uses n 0 ⊎ (uses_on f n k 0 ≡ 0) → Uses n 1 ⊎ (uses_on f n k 1 ≡ 0)
          → (j : ℕ) × (j < suc n) × (Uses j 0 ⊎ Uses j 1)
      go (yes h) ih p q = let r = ih h in (r.0, omega (arith, r.1), r.2)
      go (no h) ih (inl p) q = (n, omega arith, inl p)
      go (no h) ih (inr p) (inl q) = (n, omega arith, inr q)
      go (no h) ih (inr p) (inr q) = absurd (omega arith)

-- an atom has no child
joins_on : (o side : ℕ) → kind_of o side ≡ 2 → 5 ≤ o
unfolding kind_of
joins_on o side e = go (dec_le o 4)
  where
    go : Dec (o ≤ 4) → 5 ≤ o
    go (yes l) = let z : ◌≡◌ {A = ℕ} 1 2 = rw (le-leb o 4 l) at e in absurd (omega arith)
    go (no l) = omega arith

not_eight : (o : ℕ) → kind_of o 1 ≡ 2 → ¬ (o ≡ 8)
not_eight o e z = let y = b_of_8 o z in omega arith

-- ---- in a table

module _ (v : ℕ) (f : List ℕ) (n : ℕ) (ok : Sound v f n) where
  within_deep : (d k : ℕ) → k < d → k < n → Within v (tree f k)
  within_deep zero k l h = absurd (omega arith)
  within_deep (suc d) k l h = go (dec_le (op_of f k) 4) (within_deep d)
    where
      go : Dec (op_of f k ≤ 4) → ((j : ℕ) → j < d → j < n → Within v (tree f j)) → Within v (tree f k)
      go (yes q) ih =
          let o = atom_operands v f k (ok k h) q in
          subst (Within v) (sym (tree_atom v f n ok k q)) (atom_within v (op_of f k) (operand_of f k 0) (operand_of f k 1) o.0 o.1)
      go (no q) ih =
          let m : 5 ≤ op_of f k = omega arith in
          let o = child_operands v f k (ok k h) m in
          let a = operand_of f k 0 in
          let b = operand_of f k 1 in
          subst (Within v) (sym (tree_join v f n ok k h m))
          (by_five (Within v) (op_of f k) (tree f a) (tree f b) m (join_within v (op_of f k - 5) (tree f a) (tree f b) (ih a (omega (arith, o.0)) (omega (arith, o.0))) (ih b (omega (arith, o.1)) (omega (arith, o.1)))))

  tree_within : (k : ℕ) → k < n → Within v (tree f k)
  tree_within k l = within_deep (suc k) k (omega arith) l

  module _ (x : ℕ) where
    -- what a child names its parent names
    passed_up : (j k : ℕ) → j < n → Uses f k j 0 ⊎ Uses f k j 1 → (k < j) × (NamedIn (tree f k) x → NamedIn (tree f j) x)
    passed_up j k h (inl u) =
        let m = joins_on (op_of f j) 0 u.0 in
        let c = child_operands v f j (ok j h) m in (
          omega (arith, c.0, u.1),
          λ q.
              subst (λ (F : Form). NamedIn F x) (sym (tree_join v f n ok j h m))
              (by_five (λ F. NamedIn F x) (op_of f j) _ (tree f (operand_of f j 1)) m (a_names (op_of f j - 5) (tree f (operand_of f j 0)) (tree f (operand_of f j 1)) x (omega (arith, (ok j h).operator.1)) (subst (λ (i : ℕ). NamedIn (tree f i) x) (sym u.1) q))),
        )
    passed_up j k h (inr u) =
        let m = joins_on (op_of f j) 1 u.0 in
        let c = child_operands v f j (ok j h) m in (
          omega (arith, c.1, u.1),
          λ q.
              subst (λ (F : Form). NamedIn F x) (sym (tree_join v f n ok j h m))
              (by_five (λ F. NamedIn F x) (op_of f j) (tree f (operand_of f j 0)) _ m (b_names (op_of f j - 5) (tree f (operand_of f j 0)) (tree f (operand_of f j 1)) x (omega (arith, (ok j h).operator.1)) (λ e. not_eight (op_of f j) u.0 (omega arith)) (subst (λ (i : ℕ). NamedIn (tree f i) x) (sym u.1) q))),
        )

    climbs : Tree f n → (d k : ℕ) → n ≤ k + d → k < n → NamedIn (tree f k) x → NamedIn (tree f (n - 1)) x
    climbs t zero k l h q = absurd (omega arith)
    climbs t (suc d) k l h q = go (dec_lt (suc k) n) (climbs t d)
      where
        go : Dec (suc k < n) → ((j : ℕ) → n ≤ j + d → j < n → NamedIn (tree f j) x → NamedIn (tree f (n - 1)) x) → NamedIn (tree f (n - 1)) x
        go (yes m) ih =
            let u = used_by_is f k n (omega (arith, t k m)) in
            let p = passed_up u.0 k u.1 u.2 in
            ih u.0 (omega (arith, p.0)) u.1 (p.1 q)
        go (no m) ih = let e : k ≡ n - 1 = omega arith in subst (λ (i : ℕ). NamedIn (tree f i) x) e q

    -- the atoms of a tree's table are those of its formula
    root_names : Tree f n → (k : ℕ) → k < n → op_of f k ≤ 4 → (operand_of f k 0 ≡ x) ⊎ (operand_of f k 1 ≡ x) → NamedIn (tree f (n - 1)) x
    root_names t k h l q =
        climbs t n k (omega arith) h (subst (λ (F : Form). NamedIn F x) (sym (tree_atom v f n ok k l)) (atom_names (op_of f k) (operand_of f k 0) (operand_of f k 1) x (ok k h).operator.0 l q))

-- ---- of an accepted book

module _ (s : List ℕ) (accepted : Accepted s) where
  book : Whole s
  book = accepted_whole s accepted

  pub formula_within : Within (vars_of s) (book_formula s)
  formula_within = tree_within (vars_of s) (formula_of s) (nodes (formula_of s)) book.sound (root (formula_of s)) (omega (arith, book.some))

  -- what its atoms name is named in its formula
  pub formula_names : (x : ℕ) → NamedByAtom (formula_of s) x → NamedIn (book_formula s) x
  formula_names x q = root_names (vars_of s) (formula_of s) (nodes (formula_of s)) book.sound x book.tree q.0 q.1 q.2 q.3
