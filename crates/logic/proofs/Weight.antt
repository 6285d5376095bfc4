-- In a tree each node but the root is used once, so what adds up over a formula is a sum over the nodes. Assumes nothing.
use Rattle.std.specs.Prelude.{◌≡◌, refl, List, ℕ, zero, suc, ◌+◌, ◌*◌, ◌<◌, ◌≤◌, eqb}
use Rattle.std.proofs.Common.{sym, ap₂, ◌∙◌, ⊎_elim, zero-le, not-suc-le-zero, eq-or-lt_of_le, le_of_suc-le-suc, add-mul, add-one, arith, eq-eqb, ne_eqb, le-leb}
use Rattle.std.proofs.Math.Path.{ap}
use Rattle.std.proofs.Math.Nat.{zero-mul, one-mul}
use Rattle.std.proofs.Math.Decide.{dec_le, ℕ_discrete}
use Rattle.logic.specs.Tests.{pick}
use Rattle.logic.specs.Formula.{Form}
use Rattle.logic.specs.Table.{op_of, operand_of, kind_of, Operand, OperandOk, Sound, uses_on, uses, Tree, tree}
use Rattle.logic.proofs.TableLaws.{not_used_on, no_child_on}
use Rattle.logic.proofs.NodeLaws.{tree_atom, tree_join}
use Rattle.logic.specs.Weight.{sum, kid, kids, Adds, own_at}

-- the sum of a loop, before its first turn and after one more
pub sum_start : (f : ℕ → ℕ) → sum 0 f ≡ 0
unfolding sum
sum_start f = refl

pub sum_more : (f : ℕ → ℕ) (k : ℕ) → sum (k + 1) f ≡ sum k f + f k
unfolding sum
sum_more f k = ap (λ (x : ℕ). sum x f) (add-one k)

pub sum_same : (n : ℕ) (f g : ℕ → ℕ) → ((i : ℕ) → i < n → f i ≡ g i) → sum n f ≡ sum n g
unfolding sum
sum_same zero f g h = refl
sum_same (suc n) f g h = ap₂ ◌+◌ (sum_same n f g (λ i l. h i (omega arith))) (h n (omega arith))

pub sum_add : (n : ℕ) (f g : ℕ → ℕ) → sum n (λ i. f i + g i) ≡ sum n f + sum n g
unfolding sum
sum_add zero f g = refl
sum_add (suc n) f g = omega (arith, sum_add n f g)

sum_zero : (n : ℕ) → sum n (λ i. 0) ≡ 0
unfolding sum
sum_zero zero = refl
sum_zero (suc n) = omega (arith, sum_zero n)

pub sum_one : (n : ℕ) → sum n (λ i. 1) ≡ n
unfolding sum
sum_one zero = refl
sum_one (suc n) = omega (arith, sum_one n)

pub sum_mul : (n w : ℕ) (f : ℕ → ℕ) → sum n (λ i. f i * w) ≡ sum n f * w
unfolding sum
sum_mul zero w f = sym (zero-mul w)
sum_mul (suc n) w f = omega (arith, sum_mul n w f, add-mul (sum n f) (f n) w)

pub sum_le : (n : ℕ) (f g : ℕ → ℕ) → ((i : ℕ) → i < n → f i ≤ g i) → sum n f ≤ sum n g
unfolding sum
sum_le zero f g h = zero-le
sum_le (suc n) f g h = omega (arith, sum_le n f g (λ i l. h i (omega arith)), h n (omega arith))

sum_swap : (n m : ℕ) (f : ℕ → ℕ → ℕ) → sum n (λ k. sum m (f k)) ≡ sum m (λ c. sum n (λ k. f k c))
unfolding sum
sum_swap zero m f = sym (sum_zero m)
sum_swap (suc n) m f = ap (λ (x : ℕ). x + sum m (f n)) (sum_swap n m f) ∙ sym (sum_add m (λ c. sum n (λ k. f k c)) (f n))

sum_none : (n x : ℕ) (w : ℕ → ℕ) → n ≤ x → sum n (λ c. pick (eqb x c) 1 0 * w c) ≡ 0
unfolding sum
sum_none zero x w l = refl
sum_none (suc n) x w l = rw (ne_eqb x n (λ e. omega arith)) (omega (arith, sum_none n x w (omega arith), zero-mul (w n)))

sum_point : (n x : ℕ) (w : ℕ → ℕ) → x < n → sum n (λ c. pick (eqb x c) 1 0 * w c) ≡ w x
unfolding sum
sum_point zero x w l = absurd (not-suc-le-zero l)
sum_point (suc n) x w l =
    ⊎_elim (λ (e : x ≡ n). rw (eq-eqb x n e) (omega (arith, sum_none n x w (omega arith), one-mul (w n), ap w e)))
    (λ (m : x < n). rw (ne_eqb x n (λ e. omega arith)) (omega (arith, sum_point n x w m, zero-mul (w n)))) (eq-or-lt_of_le (le_of_suc-le-suc l))

uses_sum : (f : List ℕ) (n k : ℕ) → uses f n k ≡ sum n (λ j. uses_on f j k 0 + uses_on f j k 1)
unfolding uses sum
uses_sum f zero k = refl
uses_sum f (suc n) k = ap (λ (x : ℕ). x + (uses_on f n k 0 + uses_on f n k 1)) (uses_sum f n k)

-- an atom has no child
no_kid : (o side x : ℕ) → o ≤ 4 → kid o side x ≡ 0
unfolding kind_of
no_kid o side x l = rw (le-leb o 4 l)

module _ (v : ℕ) (f : List ℕ) (n : ℕ) (ok : Sound v f n) where
  -- a child is lower
  lower : (k side : ℕ) → OperandOk v f k side → kind_of (op_of f k) side ≡ 2 → operand_of f k side < k
  unfolding Operand
  lower k side q e = rw e at q

  module _ (w : ℕ → ℕ) where
    -- a node's child, as a sum over all that it could be
    kid_uses : (k side : ℕ) → k < n → OperandOk v f k side → kid (op_of f k) side (w (operand_of f k side)) ≡ sum n (λ c. uses_on f k c side * w c)
    kid_uses k side l q = go (ℕ_discrete (kind_of (op_of f k) side) 2)
      where
        go : Dec (kind_of (op_of f k) side ≡ 2) → kid (op_of f k) side (w (operand_of f k side)) ≡ sum n (λ c. uses_on f k c side * w c)
        go (yes e) =
            let m = lower k side q e in
            rw (eq-eqb (kind_of (op_of f k) side) 2 e) (sym (sum_point n (operand_of f k side) w (omega arith)))
        go (no e) =
            rw (ne_eqb (kind_of (op_of f k) side) 2 e)
            (sym (sum_same n (λ c. 0 * w c) (λ c. 0) (λ c z. zero-mul (w c)) ∙ sum_zero n))

    -- all nodes' children, counted by parent and by child
    pub kids_uses : sum n (kids f w) ≡ sum n (λ c. uses f n c * w c)
    kids_uses =
        sum_same n (kids f w) (λ k. sum n (λ c. (uses_on f k c 0 + uses_on f k c 1) * w c)) by_parent
        ∙ sum_swap n n (λ k c. (uses_on f k c 0 + uses_on f k c 1) * w c)
        ∙ sum_same n (λ c. sum n (λ k. (uses_on f k c 0 + uses_on f k c 1) * w c)) (λ c. uses f n c * w c) by_child
      where
        by_parent : (k : ℕ) → k < n → kids f w k ≡ sum n (λ c. (uses_on f k c 0 + uses_on f k c 1) * w c)
        by_parent k l =
            let q = (ok k l).operands in
            ap₂ ◌+◌ (kid_uses k 0 l q.0) (kid_uses k 1 l q.1)
            ∙ sym (sum_add n (λ c. uses_on f k c 0 * w c) (λ c. uses_on f k c 1 * w c))
            ∙ sum_same n (λ c. uses_on f k c 0 * w c + uses_on f k c 1 * w c) (λ c. (uses_on f k c 0 + uses_on f k c 1) * w c) (λ c z. sym (add-mul (uses_on f k c 0) (uses_on f k c 1) (w c)))

        by_child : (c : ℕ) → c < n → sum n (λ k. (uses_on f k c 0 + uses_on f k c 1) * w c) ≡ uses f n c * w c
        by_child c l = sum_mul n (w c) (λ k. uses_on f k c 0 + uses_on f k c 1) ∙ ap (λ (x : ℕ). x * w c) (sym (uses_sum f n c))

  -- the root is no node's child
  root_unused : (m : ℕ) → n ≡ suc m → uses f n m ≡ 0
  root_unused m e = uses_sum f n m ∙ sum_same n (λ j. uses_on f j m 0 + uses_on f j m 1) (λ j. 0) (λ j l. none j l) ∙ sum_zero n
    where
      on_side : (j side : ℕ) → j < n → OperandOk v f j side → uses_on f j m side ≡ 0
      on_side j side l q = go (ℕ_discrete (kind_of (op_of f j) side) 2)
        where
          go : Dec (kind_of (op_of f j) side ≡ 2) → uses_on f j m side ≡ 0
          go (yes d) = not_used_on f j m side d (λ z. let h = lower j side q d in absurd (omega (arith, h, z)))
          go (no d) = no_child_on f j m side d

      none : (j : ℕ) → j < n → uses_on f j m 0 + uses_on f j m 1 ≡ 0
      none j l = let q = (ok j l).operands in ap₂ ◌+◌ (on_side j 0 l q.0) (on_side j 1 l q.1)

  module _ (t : Tree f n) (m : ℕ) (e : n ≡ suc m) where
    -- each node but the root is a child once
    once : (w : ℕ → ℕ) → sum n (λ c. uses f n c * w c) ≡ sum m w
    unfolding sum
    once w =
        let rest : sum m (λ c. uses f n c * w c) ≡ sum m w = sum_same m (λ c. uses f n c * w c) w (λ c l. ap (λ (x : ℕ). x * w c) (t c (omega arith)) ∙ one-mul (w c)) in
        let top : uses f n m * w m ≡ 0 = ap (λ (x : ℕ). x * w m) (root_unused m e) ∙ zero-mul (w m) in
        ap (λ (x : ℕ). sum x (λ c. uses f n c * w c)) e ∙ omega (arith, rest, top)

    -- all nodes have together as many children as there are nodes below the root
    pub children : sum n (kids f (λ j. 1)) ≡ m
    children = kids_uses (λ j. 1) ∙ once (λ j. 1) ∙ sum_one m

    -- a weight that adds up over the tree is the sum over the nodes
    pub weigh : (o w : ℕ → ℕ) → ((k : ℕ) → k < n → w k ≡ o k + kids f w k) → w m ≡ sum n o
    unfolding sum
    weigh o w adds =
        let all : sum n w ≡ sum n o + sum n (kids f w) = sum_same n w (λ k. o k + kids f w k) adds ∙ sum_add n o (kids f w) in
        let few : sum n (kids f w) ≡ sum m w = kids_uses w ∙ once w in
        let top : sum n w ≡ sum m w + w m = ap (λ (x : ℕ). sum x w) e in
        omega (arith, all, few, top)

module _ (v : ℕ) (f : List ℕ) (n : ℕ) (ok : Sound v f n) (t : Tree f n) (m : ℕ) (e : n ≡ suc m) (W : Form → ℕ) (own : ℕ → ℕ → ℕ → ℕ) (a : Adds W own) where
  pub adds_up : W (tree f m) ≡ sum n (own_at own f)
  adds_up = weigh v f n ok t m e (own_at own f) (λ k. W (tree f k)) at_node
    where
      at_node : (k : ℕ) → k < n → W (tree f k) ≡ own_at own f k + kids f (λ j. W (tree f j)) k
      at_node k l = go (dec_le (op_of f k) 4)
        where
          go : Dec (op_of f k ≤ 4) → W (tree f k) ≡ own_at own f k + kids f (λ j. W (tree f j)) k
          go (yes h) =
              let none = ap₂ ◌+◌ (no_kid (op_of f k) 0 (W (tree f (operand_of f k 0))) h) (no_kid (op_of f k) 1 (W (tree f (operand_of f k 1))) h) in
              ap W (tree_atom v f n ok k h) ∙ a.atom (op_of f k) (operand_of f k 0) (operand_of f k 1) (ok k l).operator.0 h ∙ omega (arith, none)
          go (no h) =
              let g : 5 ≤ op_of f k = omega arith in
              ap W (tree_join v f n ok k l g)
              ∙ a.join (op_of f k) (operand_of f k 0) (operand_of f k 1) (tree f (operand_of f k 0)) (tree f (operand_of f k 1)) g (ok k l).operator.1
