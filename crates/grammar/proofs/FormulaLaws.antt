-- A table with the nodes of a formula stands for that formula, and its nodes are as they should be. Assumes nothing.
use Rattle.std.specs.Prelude.{◌≡◌, false, List, eqb}
use Rattle.std.proofs.Math.Path.{refl, ap, subst}
use Rattle.std.proofs.Common.{sym, ◌∙◌}
use Prim.Native.Nat.{ℕ, suc, ◌+◌, ◌-◌, ◌≤◌, ◌<◌, zero}
use Rattle.std.proofs.Math.Decide.{dec_lt}
use native.Mathlib.Omega.{arith}
use borrow.Author.Tests.{le-leb, lt-leb}
use Rattle.logic.specs.Formula.{Form}
use Rattle.logic.specs.Formula.Form.{same, diff, pts, ls, conj, disj, but, neg, sep, sept}
use Rattle.logic.specs.Table.{kind_of, Operand, NodeOk, atom_of, join_from5, join_of, form_of, deep, tree}
use Rattle.grammar.specs.Listing.{size_of}
use Rattle.grammar.specs.ListingLaws.{Node, Two, Has, Within}
use Rattle.grammar.proofs.ListingLaws.{size_some}

module _ (f : List ℕ) where
  -- operator o over two nodes that stand for a and b
  deep_two : (o k l m d : ℕ) (a b : Form) → Two f o k l m → 5 ≤ o → deep f d (k + l - 1) ≡ a → deep f d (k + l + m - 1) ≡ b → deep f (suc d) (k + l + m) ≡ join_of o a b
  unfolding deep form_of
  deep_two o k l m d a b n h p q = rw (n.0, n.1, n.2, lt-leb o 4 h, p, q)

  deep_one : (k l d : ℕ) (a : Form) → Node f (k + l) 8 (k + l - 1) 0 → deep f d (k + l - 1) ≡ a → deep f (suc d) (k + l) ≡ neg a
  unfolding deep form_of join_of join_from5
  deep_one k l d a n p = rw (n.0, n.1, p)

  two_last : (a b : Form) (k : ℕ) → k + (size_of a + size_of b + 1) - 1 ≡ k + size_of a + size_of b
  two_last a b k = omega arith

  one_last : (a : Form) (k : ℕ) → k + (size_of a + 1) - 1 ≡ k + size_of a
  one_last a k = omega arith

  pub deep_has : (F : Form) (k d : ℕ) → size_of F ≤ d → Has f k F → deep f d (k + size_of F - 1) ≡ F
  unfolding Has size_of deep form_of atom_of join_of join_from5
  deep_has F k zero l h = absurd (omega (arith, size_some F))
  deep_has (same x y) k (suc d) l h = let e : k + 1 - 1 ≡ k = omega arith in rw (e, h.0, h.1, h.2)
  deep_has (diff x y) k (suc d) l h = let e : k + 1 - 1 ≡ k = omega arith in rw (e, h.0, h.1, h.2)
  deep_has (pts x y) k (suc d) l h = let e : k + 1 - 1 ≡ k = omega arith in rw (e, h.0, h.1, h.2)
  deep_has (ls x y) k (suc d) l h = let e : k + 1 - 1 ≡ k = omega arith in rw (e, h.0, h.1, h.2)
  deep_has (conj a b) k (suc d) l h = ap (deep f (suc d)) (two_last a b k) ∙ deep_two 5 k (size_of a) (size_of b) d a b h.2 (omega arith) (deep_has a k d (omega arith) h.0) (deep_has b (k + size_of a) d (omega arith) h.1)
  deep_has (disj a b) k (suc d) l h = ap (deep f (suc d)) (two_last a b k) ∙ deep_two 6 k (size_of a) (size_of b) d a b h.2 (omega arith) (deep_has a k d (omega arith) h.0) (deep_has b (k + size_of a) d (omega arith) h.1)
  deep_has (but a b) k (suc d) l h = ap (deep f (suc d)) (two_last a b k) ∙ deep_two 7 k (size_of a) (size_of b) d a b h.2 (omega arith) (deep_has a k d (omega arith) h.0) (deep_has b (k + size_of a) d (omega arith) h.1)
  deep_has (neg a) k (suc d) l h = ap (deep f (suc d)) (one_last a k) ∙ deep_one k (size_of a) d a h.1 (deep_has a k d (omega arith) h.0)
  deep_has (sep a b) k (suc d) l h = ap (deep f (suc d)) (two_last a b k) ∙ deep_two 9 k (size_of a) (size_of b) d a b h.2 (omega arith) (deep_has a k d (omega arith) h.0) (deep_has b (k + size_of a) d (omega arith) h.1)
  deep_has (sept a b) k (suc d) l h = ap (deep f (suc d)) (two_last a b k) ∙ deep_two 10 k (size_of a) (size_of b) d a b h.2 (omega arith) (deep_has a k d (omega arith) h.0) (deep_has b (k + size_of a) d (omega arith) h.1)

-- the last node of the listing stands for the formula
pub tree_has : (f : List ℕ) (F : Form) → Has f 0 F → tree f (size_of F - 1) ≡ F
unfolding tree
tree_has f F h =
    let z : 0 + size_of F - 1 ≡ size_of F - 1 = omega arith in
    sym (ap (deep f (suc (size_of F - 1))) z) ∙ deep_has f F 0 (suc (size_of F - 1)) (omega arith) h

-- ---- the nodes are as they should be

module _ (v : ℕ) (f : List ℕ) where
  atom_ok : (k o x y : ℕ) → 1 ≤ o → o ≤ 4 → Node f k o x y → x ≤ v → y ≤ v → NodeOk v f k
  unfolding kind_of Operand
  atom_ok k o x y a b n p q = record { operator = rw n.0 (a, omega arith); operands = rw (n.0, n.1, n.2, le-leb o 4 b) (p, q) }

  two_ok : (k o x y : ℕ) → 5 ≤ o → o ≤ 10 → eqb o 8 ≡ false → Node f k o x y → x < k → y < k → NodeOk v f k
  unfolding kind_of Operand
  two_ok k o x y a b e n p q = record { operator = rw n.0 (omega arith, b); operands = rw (n.0, n.1, n.2, lt-leb o 4 a, e) (p, q) }

  one_ok : (k x : ℕ) → Node f k 8 x 0 → x < k → NodeOk v f k
  unfolding kind_of Operand
  one_ok k x n p = record { operator = rw n.0 (omega arith, omega arith); operands = rw (n.0, n.1, n.2) (p, refl) }

  -- nodes k to n - 1 are as they should be
  abbrev Ok : ℕ → ℕ → Type 0
  Ok k n = (j : ℕ) → k ≤ j → j < n → NodeOk v f j

  ok_one : (k : ℕ) → NodeOk v f k → Ok k (k + 1)
  ok_one k h j a b = subst (NodeOk v f) (omega arith) h

  ok_more : (k m n : ℕ) → Ok k m → Ok m n → Ok k n
  ok_more k m n p q j a b = go (dec_lt j m)
    where
      go : Dec (j < m) → NodeOk v f j
      go (yes l) = p j a l
      go (no l) = q j (omega arith) b

  two_has : (o k : ℕ) (a b : Form) → 5 ≤ o → o ≤ 10 → eqb o 8 ≡ false → Ok k (k + size_of a) → Ok (k + size_of a) (k + size_of a + size_of b) → Two f o k (size_of a) (size_of b) → Ok k (k + (size_of a + size_of b + 1))
  two_has o k a b l h e p q n =
      let x = k + size_of a in
      let y = k + size_of a + size_of b in
      let z : y + 1 ≡ k + (size_of a + size_of b + 1) = omega arith in
      subst (Ok k) z (ok_more k y (y + 1) (ok_more k x y p q) (ok_one y (two_ok y o (x - 1) (y - 1) l h e n (omega (arith, size_some a, size_some b)) (omega (arith, size_some b)))))

  pub ok_has : (F : Form) (k : ℕ) → Within v F → Has f k F → Ok k (k + size_of F)
  unfolding Within Has size_of
  ok_has (same x y) k w h = ok_one k (atom_ok k 1 x y (omega arith) (omega arith) h w.0 w.1)
  ok_has (diff x y) k w h = ok_one k (atom_ok k 2 x y (omega arith) (omega arith) h w.0 w.1)
  ok_has (pts x y) k w h = ok_one k (atom_ok k 3 x y (omega arith) (omega arith) h w.0 w.1)
  ok_has (ls x y) k w h = ok_one k (atom_ok k 4 x y (omega arith) (omega arith) h w.0 w.1)
  ok_has (conj a b) k w h = two_has 5 k a b (omega arith) (omega arith) refl (ok_has a k w.0 h.0) (ok_has b (k + size_of a) w.1 h.1) h.2
  ok_has (disj a b) k w h = two_has 6 k a b (omega arith) (omega arith) refl (ok_has a k w.0 h.0) (ok_has b (k + size_of a) w.1 h.1) h.2
  ok_has (but a b) k w h = two_has 7 k a b (omega arith) (omega arith) refl (ok_has a k w.0 h.0) (ok_has b (k + size_of a) w.1 h.1) h.2
  ok_has (neg a) k w h =
      let x = k + size_of a in
      let z : x + 1 ≡ k + (size_of a + 1) = omega arith in
      subst (Ok k) z (ok_more k x (x + 1) (ok_has a k w h.0) (ok_one x (one_ok x (x - 1) h.1 (omega (arith, size_some a)))))
  ok_has (sep a b) k w h = two_has 9 k a b (omega arith) (omega arith) refl (ok_has a k w.0 h.0) (ok_has b (k + size_of a) w.1 h.1) h.2
  ok_has (sept a b) k w h = two_has 10 k a b (omega arith) (omega arith) refl (ok_has a k w.0 h.0) (ok_has b (k + size_of a) w.1 h.1) h.2
