-- A table with the nodes of a formula is a tree. Assumes nothing.
use Rattle.std.specs.Prelude.{◌≡◌, false, List, ◌⊎◌, eqb}
use Rattle.std.proofs.Math.Path.{refl}
use Rattle.std.proofs.Common.{ap, ◌∙◌, subst, inl, inr}
use Prim.Native.Nat.{ℕ, suc, ◌+◌, ◌-◌, ◌≤◌, ◌<◌}
use Rattle.std.proofs.Math.Decide.{dec_lt, ℕ_discrete}
use native.Mathlib.Omega.{arith}
use borrow.Author.Tests.{eq-eqb, ne_eqb, le-leb, lt-leb}
use Rattle.logic.specs.Formula.{Form}
use Rattle.logic.specs.Formula.Form.{same, diff, pts, ls, conj, disj, but, neg, sep, sept}
use Rattle.logic.specs.Table.{kind_of, uses_on, uses, Tree}
use Rattle.logic.specs.Tests.{pick}
use Rattle.grammar.specs.Listing.{size_of}
use Rattle.grammar.specs.ListingLaws.{Node, Two, Has}
use Rattle.grammar.proofs.ListingLaws.{size_some}

module _ (f : List ℕ) (j : ℕ) where
  -- how often node i has the child j
  abbrev used_by : ℕ → ℕ
  used_by i = uses_on f i j 0 + uses_on f i j 1

  atom_uses_none : (k o x y : ℕ) → o ≤ 4 → Node f k o x y → used_by k ≡ 0
  unfolding kind_of
  atom_uses_none k o x y l n = rw (n.0, le-leb o 4 l)

  two_uses : (k o x y : ℕ) → 5 ≤ o → eqb o 8 ≡ false → Node f k o x y → used_by k ≡ pick (eqb x j) 1 0 + pick (eqb y j) 1 0
  unfolding kind_of
  two_uses k o x y l e n = rw (n.0, n.1, n.2, lt-leb o 4 l, e)

  one_uses : (k x : ℕ) → Node f k 8 x 0 → used_by k ≡ pick (eqb x j) 1 0
  unfolding kind_of
  one_uses k x n = rw (n.0, n.1) (omega arith)

  -- j is one of the nodes from k on, of which there are r, and not the last
  abbrev Inner : ℕ → ℕ → Type 0
  Inner k r = (k ≤ j) × (suc j < k + r)

  -- of these nodes all but the last are used once by them, and no others
  abbrev Once : ℕ → ℕ → Type 0
  Once k r = (Inner k r × (uses f (k + r) j ≡ uses f k j + 1)) ⊎ ((¬ Inner k r) × (uses f (k + r) j ≡ uses f k j))

  uses_next : (k : ℕ) → uses f (k + 1) j ≡ uses f k j + used_by k
  unfolding uses
  uses_next k = let e : k + 1 ≡ suc k = omega arith in rw e

  once_atom : (k o x y : ℕ) → o ≤ 4 → Node f k o x y → Once k 1
  once_atom k o x y l n = inr (λ h. omega (arith, h.0, h.1), uses_next k ∙ (rw (atom_uses_none k o x y l n) (omega arith)))

  hit : (x : ℕ) → x ≡ j → pick (eqb x j) 1 0 ≡ 1
  hit x e = rw (eq-eqb x j e)

  miss : (x : ℕ) → ¬ (x ≡ j) → pick (eqb x j) 1 0 ≡ 0
  miss x e = rw (ne_eqb x j e)

  outside : (k r : ℕ) → ¬ Inner k r → k ≤ j → k + r ≤ suc j
  outside k r h l = go (dec_lt (suc j) (k + r))
    where
      go : Dec (suc j < k + r) → k + r ≤ suc j
      go (yes m) = absurd (h (l, m))
      go (no m) = omega arith

  once_two : (o k l m : ℕ) → 5 ≤ o → eqb o 8 ≡ false → 1 ≤ l → 1 ≤ m → Two f o k l m → Once k l → Once (k + l) m → Once k (l + m + 1)
  once_two o k l m lo e pl pm n p q = go p q (ℕ_discrete (k + l - 1) j) (ℕ_discrete (k + l + m - 1) j)
    where
      all : uses f (k + l + m + 1) j ≡ uses f (k + l + m) j + (pick (eqb (k + l - 1) j) 1 0 + pick (eqb (k + l + m - 1) j) 1 0)
      all = uses_next (k + l + m) ∙ ap (λ (z : ℕ). uses f (k + l + m) j + z) (two_uses (k + l + m) o (k + l - 1) (k + l + m - 1) lo e n)

      last : k + l + m + 1 ≡ k + (l + m + 1)
      last = omega arith

      inner : (a b : ℕ) → pick (eqb (k + l - 1) j) 1 0 ≡ a → pick (eqb (k + l + m - 1) j) 1 0 ≡ b → uses f (k + l + m) j + (a + b) ≡ uses f k j + 1 → Inner k (l + m + 1) → Once k (l + m + 1)
      inner a b ea eb z i = inl (i, subst (λ (t : ℕ). uses f t j ≡ uses f k j + 1) last (all ∙ rw (ea, eb) z))

      go : Once k l → Once (k + l) m → Dec (k + l - 1 ≡ j) → Dec (k + l + m - 1 ≡ j) → Once k (l + m + 1)
      go (inl u) (inl w) x y = absurd (omega (arith, u.0.1, w.0.0))
      go (inl u) (inr w) (yes x) y = absurd (omega (arith, u.0.1))
      go (inl u) (inr w) (no x) (yes y) = absurd (omega (arith, u.0.1))
      go (inl u) (inr w) (no x) (no y) = inner 0 0 (miss (k + l - 1) x) (miss (k + l + m - 1) y) (omega (arith, u.1, w.1)) (u.0.0, omega (arith, u.0.1))
      go (inr u) (inl w) (yes x) y = absurd (omega (arith, w.0.0))
      go (inr u) (inl w) (no x) (yes y) = absurd (omega (arith, w.0.1))
      go (inr u) (inl w) (no x) (no y) = inner 0 0 (miss (k + l - 1) x) (miss (k + l + m - 1) y) (omega (arith, u.1, w.1)) (omega (arith, w.0.0), omega (arith, w.0.1))
      go (inr u) (inr w) (yes x) (yes y) = absurd (omega arith)
      go (inr u) (inr w) (yes x) (no y) = inner 1 0 (hit (k + l - 1) x) (miss (k + l + m - 1) y) (omega (arith, u.1, w.1)) (omega arith, omega arith)
      go (inr u) (inr w) (no x) (yes y) = inner 0 1 (miss (k + l - 1) x) (hit (k + l + m - 1) y) (omega (arith, u.1, w.1)) (omega arith, omega arith)
      go (inr u) (inr w) (no x) (no y) =
          inr (
            λ i. far i.0 i.1 (outside k l u.0 i.0),
            subst (λ (t : ℕ). uses f t j ≡ uses f k j) last (all ∙ rw (miss (k + l - 1) x, miss (k + l + m - 1) y) (omega (arith, u.1, w.1))),
          )
        where
          far : k ≤ j → suc j < k + (l + m + 1) → k + l ≤ suc j → ⊥
          far a b c = let d = outside (k + l) m w.0 (omega arith) in omega arith

  once_one : (k l : ℕ) → 1 ≤ l → Node f (k + l) 8 (k + l - 1) 0 → Once k l → Once k (l + 1)
  once_one k l pl n p = go p (ℕ_discrete (k + l - 1) j)
    where
      all : uses f (k + l + 1) j ≡ uses f (k + l) j + pick (eqb (k + l - 1) j) 1 0
      all = uses_next (k + l) ∙ ap (λ (z : ℕ). uses f (k + l) j + z) (one_uses (k + l) (k + l - 1) n)

      last : k + l + 1 ≡ k + (l + 1)
      last = omega arith

      go : Once k l → Dec (k + l - 1 ≡ j) → Once k (l + 1)
      go (inl u) (yes x) = absurd (omega (arith, u.0.1))
      go (inl u) (no x) = inl ((u.0.0, omega (arith, u.0.1)), subst (λ (t : ℕ). uses f t j ≡ uses f k j + 1) last (all ∙ rw (miss (k + l - 1) x) (omega (arith, u.1))))
      go (inr u) (yes x) = inl ((omega arith, omega arith), subst (λ (t : ℕ). uses f t j ≡ uses f k j + 1) last (all ∙ rw (hit (k + l - 1) x) (omega (arith, u.1))))
      go (inr u) (no x) =
          inr (
            λ i. let d = outside k l u.0 i.0 in omega (arith, i.1),
            subst (λ (t : ℕ). uses f t j ≡ uses f k j) last (all ∙ rw (miss (k + l - 1) x) (omega (arith, u.1))),
          )

  pub once_has : (F : Form) (k : ℕ) → Has f k F → Once k (size_of F)
  unfolding Has size_of
  once_has (same x y) k h = once_atom k 1 x y (omega arith) h
  once_has (diff x y) k h = once_atom k 2 x y (omega arith) h
  once_has (pts x y) k h = once_atom k 3 x y (omega arith) h
  once_has (ls x y) k h = once_atom k 4 x y (omega arith) h
  once_has (conj a b) k h = once_two 5 k (size_of a) (size_of b) (omega arith) refl (size_some a) (size_some b) h.2 (once_has a k h.0) (once_has b (k + size_of a) h.1)
  once_has (disj a b) k h = once_two 6 k (size_of a) (size_of b) (omega arith) refl (size_some a) (size_some b) h.2 (once_has a k h.0) (once_has b (k + size_of a) h.1)
  once_has (but a b) k h = once_two 7 k (size_of a) (size_of b) (omega arith) refl (size_some a) (size_some b) h.2 (once_has a k h.0) (once_has b (k + size_of a) h.1)
  once_has (neg a) k h = once_one k (size_of a) (size_some a) h.1 (once_has a k h.0)
  once_has (sep a b) k h = once_two 9 k (size_of a) (size_of b) (omega arith) refl (size_some a) (size_some b) h.2 (once_has a k h.0) (once_has b (k + size_of a) h.1)
  once_has (sept a b) k h = once_two 10 k (size_of a) (size_of b) (omega arith) refl (size_some a) (size_some b) h.2 (once_has a k h.0) (once_has b (k + size_of a) h.1)

pub tree_of : (f : List ℕ) (F : Form) → Has f 0 F → Tree f (size_of F)
unfolding uses
tree_of f F h j l = go (once_has f j F 0 h)
  where
    z : 0 + size_of F ≡ size_of F
    z = omega arith

    go : Once f j 0 (size_of F) → uses f (size_of F) j ≡ 1
    go (inl u) = subst (λ (t : ℕ). uses f t j ≡ 1) z u.1
    go (inr u) = absurd (u.0 (omega arith, omega arith))
