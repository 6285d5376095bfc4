-- Laws of a list segment as code walks it. Assumes nothing.
use Rattle.std.specs.Prelude.{◌≡◌, Bool, false, ℕ, zero, suc, ◌-◌, ◌<◌, ◌≤◌}
use Rattle.std.proofs.Common.{sym, subst, ◌∙◌, not-suc-le-zero, sub-one, arith, eq-eqb, ne_eqb}
use Rattle.std.specs.Int.Bits.{bit_xor}
use Rattle.logic.specs.Heap.{Map, Heap, Empty}
use Rattle.logic.specs.Holds.{Segment}
use Rattle.logic.specs.Tests.{empty, without, chain}
use Rattle.logic.specs.Reflect.{Is}
use Rattle.logic.proofs.Reflect.{is_same}
use Rattle.logic.proofs.Agree.{is_empty}
use Rattle.logic.proofs.Chains.{is_segment}
use Rattle.logic.proofs.Without.{without_heap}
use Rattle.cells.specs.Cells.{most, cells, Placed}
use Rattle.cells.specs.Loops.{Walk}
use Rattle.cells.specs.Packing.{cells_nil}
use Rattle.cells.specs.Heaps.{cut_is}

chain_same : (n k a b : ℕ) (h : Map) → a ≡ b → chain n k a b h ≡ empty n h
unfolding chain
chain_same n zero a b h e = rw (eq-eqb a b e)
chain_same n (suc k) a b h e = rw (eq-eqb a b e)

chain_short : (n k a b : ℕ) (h : Map) → k ≤ 0 → ¬ (a ≡ b) → chain n k a b h ≡ false
unfolding chain
chain_short n zero a b h l e = rw (ne_eqb a b e)
chain_short n (suc k) a b h l e = absurd (not-suc-le-zero l)

chain_broken : (n k a b : ℕ) (h : Map) → ¬ (a ≡ b) → h a ≡ 0 → chain n k a b h ≡ false
unfolding chain
chain_broken n zero a b h e z = rw (ne_eqb a b e)
chain_broken n (suc k) a b h e z = rw (ne_eqb a b e, eq-eqb (h a) 0 z)

chain_step : (n k a b : ℕ) (h : Map) → 0 < k → ¬ (a ≡ b) → ¬ (h a ≡ 0) → chain n (k - 1) (h a - 1) b (without a h) ≡ chain n k a b h
unfolding chain
chain_step n zero a b h l e z = absurd (not-suc-le-zero l)
chain_step n (suc k) a b h l e z = rw (ne_eqb a b e, ne_eqb (h a) 0 z, sub-one, sub-one)

module _ (n a b w : ℕ) (few : n ≤ most) (kw : Heap n (cells w)) where
  by_chain : (r : Bool) → r ≡ chain n n a b (cells w) → Is r (Segment a b (cells w))
  by_chain r e = subst (λ (c : Bool). Is c (Segment a b (cells w))) (sym e) (is_segment n a b (cells w) kw)

  module _ (k x g : ℕ) (q : Walk n a b w k x g) where
    pub walk_there : (r : Bool) → x ≡ b → Is r (Empty (cells g)) → Is r (Segment a b (cells w))
    walk_there r e i = by_chain r (is_same r (empty n (cells g)) i (is_empty n (cells g) q.heap) ∙ sym (chain_same n k x b (cells g) e) ∙ q.same)

    pub walk_short : k ≤ 0 → ¬ (x ≡ b) → Is false (Segment a b (cells w))
    walk_short l e = by_chain false (sym (chain_short n k x b (cells g) l e) ∙ q.same)

    pub walk_broken : (d : ℕ) → ¬ (x ≡ b) → d ≡ cells g x → d ≡ 0 → Is false (Segment a b (cells w))
    walk_broken d e f z = by_chain false (sym (chain_broken n k x b (cells g) e (sym f ∙ z)) ∙ q.same)

    -- a location with a cell is not nil
    pub walk_some : (d : ℕ) → d ≡ cells g x → ¬ (d ≡ 0) → 1 ≤ x
    walk_some d f z = go x f
      where
        go : (y : ℕ) → d ≡ cells g y → 1 ≤ y
        go zero e = absurd (z (e ∙ cells_nil g))
        go (suc y) e = omega arith

    pub walk_on : (d r j : ℕ) → j ≡ k - 1 → 0 < k → ¬ (x ≡ b) → d ≡ cells g x → ¬ (d ≡ 0) → Placed d x r → Walk n a b w j (d - 1) (bit_xor g r)
    walk_on d r j ej l e f z pr =
        let cut : cells (bit_xor g r) ≡ without x (cells g) = cut_is g x r (subst (λ (y : ℕ). Placed y x r) f pr) in
        let v = q.heap.low x in
        record {
          same = rw (ej, cut, f) (chain_step n k x b (cells g) l e (λ o. z (f ∙ o)) ∙ q.same);
          low = omega arith;
          heap = rw cut (without_heap n x (cells g) q.heap);
        }

  pub walk_start : (k : ℕ) → k ≡ n → a ≤ most → Walk n a b w k a w
  walk_start k e l = record { same = rw e; low = l; heap = kw }
