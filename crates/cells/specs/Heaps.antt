-- Laws of packed heaps: the empty heap, one cell, a cell taken out or put in, a part and the rest, two heaps together. Assumes
-- nothing.
use Rattle.std.specs.Prelude.{◌≡◌, refl, Bool, true, false, ◌⊎◌, ℕ, suc, ◌<◌, eqb}
use Rattle.std.proofs.Common.{sym, ◌∙◌, inl, inr, mod-eq_of_lt, arith, eq-eqb, ne_eqb}
use Rattle.std.proofs.Math.Path.{ap, fun_ext}
use Rattle.std.proofs.Math.Decide.{ℕ_discrete}
use Rattle.std.specs.Int.Bits.{bit_and, bit_or, bit_xor, and_zero_r, or_zero_r, xor_zero_r, xor_self}
use Rattle.std.proofs.lemmas.Nat.{and_mask}
use Rattle.logic.specs.Heap.{Map, Empty, Parts}
use Rattle.logic.specs.Holds.{Points}
use Rattle.logic.specs.Tests.{pick, in_part, part, rest, union, without}
use Rattle.logic.specs.Reflect.{Is}
use Rattle.logic.proofs.Reflect.{false_true, is_iff, is_eq, same_of_not}
use Rattle.logic.proofs.Agree.{part_parts}
use Rattle.cells.specs.Cells.{word, cells, Placed, Spread}
use Rattle.cells.specs.Packing.{cells_nil, cells_zero, cells_lt, same_cells, cells_and, cells_or, cells_xor}

-- whether a packed heap is empty, as code works it out
pub is_nothing : (w : ℕ) → w < word → Is (eqb w 0) (Empty (cells w))
is_nothing w h =
    is_iff (is_eq w 0)
    (λ (e : w ≡ 0) ℓ. ap (λ (x : ℕ). cells x ℓ) e ∙ cells_zero ℓ)
    (λ q. same_cells w 0 h (omega arith) (λ ℓ. q ℓ ∙ sym (cells_zero ℓ)))

-- whether it is one cell
pub is_one_cell : (a b w r : ℕ) → w < word → r < word → Placed (suc b) a r → Is (eqb w r) (Points a b (cells w))
is_one_cell a b w r h k p =
    is_iff (is_eq w r)
    (λ (e : w ≡ r). rw e (record { here = p a ∙ rw (eq-eqb a a refl); only = λ ℓ f. same_of_not ℓ a (λ n. f (p ℓ ∙ rw (ne_eqb ℓ a n))) }))
    (λ q. same_cells w r h k (λ ℓ. each q ℓ (ℕ_discrete ℓ a) ∙ sym (p ℓ)))
  where
    each : Points a b (cells w) → (ℓ : ℕ) → Dec (ℓ ≡ a) → cells w ℓ ≡ pick (eqb ℓ a) (suc b) 0
    each q ℓ (yes e) = ap (cells w) e ∙ q.here ∙ rw (eq-eqb ℓ a e)
    each q ℓ (no n) = rw (ne_eqb ℓ a n) (same_of_not (cells w ℓ) 0 (λ f. n (q.only ℓ f)))

-- nil never points
pub is_no_cell : (a b w : ℕ) → a ≡ 0 → Is false (Points a b (cells w))
is_no_cell a b w e =
    record { to = λ t. false_true t; from = λ q. absurd (some (sym q.here ∙ ap (cells w) e ∙ cells_nil w)) }
  where
    some : suc b ≡ 0 → ⊥
    some z = omega arith

-- the cell at x taken out
pub cut_is : (w x r : ℕ) → Placed (cells w x) x r → cells (bit_xor w r) ≡ without x (cells w)
unfolding without
cut_is w x r p = fun_ext λ ℓ. cells_xor w r ℓ ∙ ap (bit_xor (cells w ℓ)) (p ℓ) ∙ go ℓ (ℕ_discrete ℓ x)
  where
    go : (ℓ : ℕ) → Dec (ℓ ≡ x) → bit_xor (cells w ℓ) (pick (eqb ℓ x) (cells w x) 0) ≡ pick (eqb ℓ x) 0 (cells w ℓ)
    go ℓ (yes e) = rw (eq-eqb ℓ x e, e) (xor_self (cells w x))
    go ℓ (no n) = rw (ne_eqb ℓ x n) (xor_zero_r (cells w ℓ))

-- a cell put in where there was none
pub put_at : (g d l r : ℕ) → cells g l ≡ 0 → Placed d l r → (ℓ : ℕ) → cells (bit_or g r) ℓ ≡ pick (eqb ℓ l) d (cells g ℓ)
put_at g d l r z p ℓ = cells_or g r ℓ ∙ ap (bit_or (cells g ℓ)) (p ℓ) ∙ go (ℕ_discrete ℓ l)
  where
    go : Dec (ℓ ≡ l) → bit_or (cells g ℓ) (pick (eqb ℓ l) d 0) ≡ pick (eqb ℓ l) d (cells g ℓ)
    go (yes e) = rw (eq-eqb ℓ l e, ap (cells g) e ∙ z)
    go (no n) = rw (ne_eqb ℓ l n) (or_zero_r (cells g ℓ))

-- two heaps together
pub or_union : (g w : ℕ) → ((ℓ : ℕ) → (cells g ℓ ≡ 0) ⊎ (cells w ℓ ≡ 0)) → cells (bit_or g w) ≡ union (cells g) (cells w)
unfolding union
or_union g w free = fun_ext λ ℓ. cells_or g w ℓ ∙ go ℓ (ℕ_discrete (cells g ℓ) 0) (free ℓ)
  where
    go : (ℓ : ℕ) → Dec (cells g ℓ ≡ 0) → (cells g ℓ ≡ 0) ⊎ (cells w ℓ ≡ 0) → bit_or (cells g ℓ) (cells w ℓ) ≡ pick (eqb (cells g ℓ) 0) (cells w ℓ) (cells g ℓ)
    go ℓ (yes e) o = rw e
    go ℓ (no n) (inl q) = absurd (n q)
    go ℓ (no n) (inr q) = rw (ne_eqb (cells g ℓ) 0 n, q) (or_zero_r (cells g ℓ))

-- ---- a part and the rest, by part m's mask
module _ (m e : ℕ) (sp : Spread m e) where
  and_pick : (b : Bool) (d : ℕ) → d < 256 → bit_and d (pick b 255 0) ≡ pick b d 0
  and_pick true d l = and_mask d 8 ∙ mod-eq_of_lt l
  and_pick false d l = and_zero_r d

  xor_pick : (b : Bool) (d : ℕ) → bit_xor d (pick b d 0) ≡ pick b 0 d
  xor_pick true d = xor_self d
  xor_pick false d = xor_zero_r d

  pub part_is : (w : ℕ) → cells (bit_and w e) ≡ part (cells w) m
  unfolding part
  part_is w = fun_ext λ ℓ. cells_and w e ℓ ∙ ap (bit_and (cells w ℓ)) (sp ℓ) ∙ and_pick (in_part m ℓ) (cells w ℓ) (cells_lt w ℓ)

  pub rest_is : (w : ℕ) → cells (bit_xor w (bit_and w e)) ≡ rest (cells w) m
  unfolding part rest
  rest_is w = fun_ext λ ℓ. cells_xor w (bit_and w e) ℓ ∙ ap (λ (h : Map). bit_xor (cells w ℓ) (h ℓ)) (part_is w) ∙ xor_pick (in_part m ℓ) (cells w ℓ)

  pub part_rest : (w : ℕ) → Parts (cells (bit_and w e)) (cells (bit_xor w (bit_and w e))) (cells w)
  part_rest w = rw (part_is w, rest_is w) (part_parts (cells w) m)
