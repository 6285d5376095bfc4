-- The bounds of a node from those of its children: one rule an operator. Assumes nothing.
use Rattle.std.specs.Prelude.{◌≡◌, ℕ, ◌+◌, ◌-◌, ◌≤◌}
use Rattle.std.proofs.Math.Logic.{⊎_elim}
use Rattle.std.proofs.Common.{arith}
use Rattle.logic.specs.declared.Profile.{Profile}
use Rattle.logic.specs.Heap.{Map, Heap}
use Rattle.logic.specs.Formula.{Form}
use Rattle.logic.specs.Formula.Form.{same, diff, pts, ls, conj, disj, but, neg, sep, sept}
use Rattle.logic.specs.Holds.{Holds}
use Rattle.logic.proofs.Agree.{first_heap, second_heap}
use Rattle.skips.specs.Counts.{smaller, larger}
use Rattle.skips.proofs.CountLaws.{incoming_le, incoming_none, incoming_parts, out_none, out_le, out_parts, Even, points_even, segment_even, smaller_is, larger_le}
use Rattle.skips.specs.Facts.{Digits, Hopeless, Caps, Needs, cap_of_path, cap_of, need_of}
use Rattle.skips.proofs.DigitRules.{whole_heap, may_holds}
use Rattle.skips.specs.BoundRules.{FactsAt}

module _ (π : Profile) (v n : ℕ) (s : Map) (ℓ : ℕ) where
  -- a larger bound
  pub caps_more : (F : Form) (k m : ℕ) → k ≤ m → Caps π v n F s ℓ k → Caps π v n F s ℓ m
  unfolding Caps
  caps_more F k m l f h g q = omega (arith, f h g q)

  pub needs_more : (F : Form) (k m : ℕ) → k ≤ m → Needs π v n F s ℓ k → Needs π v n F s ℓ m
  unfolding Needs
  needs_more F k m l f h g q = omega (arith, f h g q)

  -- no information
  pub caps_any : (F : Form) → Caps π v n F s ℓ (n + 1)
  unfolding Caps
  caps_any F h g q = omega (arith, incoming_le ℓ n h)

  pub needs_any : (F : Form) → Needs π v n F s ℓ 2
  unfolding Needs
  needs_any F h g q = omega (arith, out_le h ℓ)

  -- where nothing holds, any bound is right
  pub caps_hopeless : (F : Form) (k : ℕ) → Hopeless π v n F s → Caps π v n F s ℓ k
  unfolding Caps Hopeless
  caps_hopeless F k none h g q = absurd (none h g q)

  pub needs_hopeless : (F : Form) (k : ℕ) → Hopeless π v n F s → Needs π v n F s ℓ k
  unfolding Needs Hopeless
  needs_hopeless F k none h g q = absurd (none h g q)

  -- ---- the atoms

  pub caps_same : (x y : ℕ) → Caps π v n (same x y) s ℓ 1
  unfolding Caps Holds
  caps_same x y h g q = omega (arith, incoming_none ℓ n h (λ i l. q.1 i))

  pub caps_diff : (x y : ℕ) → Caps π v n (diff x y) s ℓ 1
  unfolding Caps Holds
  caps_diff x y h g q = omega (arith, incoming_none ℓ n h (λ i l. q.1 i))

  pub caps_pts : (x y : ℕ) → Caps π v n (pts x y) s ℓ (cap_of_path (s x) (s y) ℓ)
  unfolding Caps Holds Even
  caps_pts x y h g q = omega (arith, points_even ℓ n (s x) (s y) h g q)

  pub caps_ls : (x y : ℕ) → Caps π v n (ls x y) s ℓ (cap_of_path (s x) (s y) ℓ)
  unfolding Caps Holds Even
  caps_ls x y h g q = omega (arith, segment_even ℓ n (s x) (s y) h g q)

  pub needs_same : (x y : ℕ) → Needs π v n (same x y) s ℓ 1
  unfolding Needs Holds
  needs_same x y h g q = omega (arith, out_none h ℓ (q.1 ℓ))

  pub needs_diff : (x y : ℕ) → Needs π v n (diff x y) s ℓ 1
  unfolding Needs Holds
  needs_diff x y h g q = omega (arith, out_none h ℓ (q.1 ℓ))

  pub needs_pts : (x y : ℕ) → Needs π v n (pts x y) s ℓ (cap_of_path (s y) (s x) ℓ)
  unfolding Needs Holds Even
  needs_pts x y h g q = omega (arith, points_even ℓ n (s x) (s y) h g q)

  pub needs_ls : (x y : ℕ) → Needs π v n (ls x y) s ℓ (cap_of_path (s y) (s x) ℓ)
  unfolding Needs Holds Even
  needs_ls x y h g q = omega (arith, segment_even ℓ n (s x) (s y) h g q)

  -- ---- the connectives

  pub caps_but : (a b : Form) (k : ℕ) → Caps π v n a s ℓ k → Caps π v n (but a b) s ℓ k
  unfolding Caps Holds
  caps_but a b k f h g q = f h g q.0

  pub needs_but : (a b : Form) (k : ℕ) → Needs π v n a s ℓ k → Needs π v n (but a b) s ℓ k
  unfolding Needs Holds
  needs_but a b k f h g q = f h g q.0

  module _ (a b : Form) (i j : ℕ) where
    pub caps_conj : Caps π v n a s ℓ i → Caps π v n b s ℓ j → Caps π v n (conj a b) s ℓ (smaller i j)
    unfolding Caps Holds
    caps_conj f w h g q =
        ⊎_elim (λ (e : smaller i j ≡ i). omega (arith, f h g q.0)) (λ (e : smaller i j ≡ j). omega (arith, w h g q.1)) (smaller_is i j)

    pub caps_disj : Caps π v n a s ℓ i → Caps π v n b s ℓ j → Caps π v n (disj a b) s ℓ (larger i j)
    unfolding Caps Holds
    caps_disj f w h g q =
        let l = larger_le i j in
        ⊎_elim (λ (e : Holds π v n a s h). omega (arith, f h g e, l.0)) (λ (e : Holds π v n b s h). omega (arith, w h g e, l.1)) q

    pub caps_sep : Caps π v n a s ℓ i → Caps π v n b s ℓ j → Caps π v n (sep a b) s ℓ (i + j - 1)
    unfolding Caps Holds
    caps_sep f w h g q =
        let e = f q.0 (first_heap n q.0 q.1 h q.2 g) q.4 in
        let d = w q.1 (second_heap n q.0 q.1 h q.2 g) q.5 in
        omega (arith, e, d, incoming_parts ℓ n q.0 q.1 h q.2, out_parts ℓ q.0 q.1 h q.2)

    -- the heap is the whole without what was added
    pub caps_sept : Needs π v n a s ℓ i → Caps π v n b s ℓ j → Caps π v n (sept a b) s ℓ (j + i - 1)
    unfolding Caps Needs Holds
    caps_sept f w h g q =
        let e = f q.0 q.2 q.5 in
        let d = w q.1 (whole_heap n q.0 h q.1 q.3 q.2 g) q.6 in
        omega (arith, e, d, incoming_parts ℓ n q.0 h q.1 q.3, out_parts ℓ q.0 h q.1 q.3)

    pub needs_conj : Needs π v n a s ℓ i → Needs π v n b s ℓ j → Needs π v n (conj a b) s ℓ (smaller i j)
    unfolding Needs Holds
    needs_conj f w h g q =
        ⊎_elim (λ (e : smaller i j ≡ i). omega (arith, f h g q.0)) (λ (e : smaller i j ≡ j). omega (arith, w h g q.1)) (smaller_is i j)

    pub needs_disj : Needs π v n a s ℓ i → Needs π v n b s ℓ j → Needs π v n (disj a b) s ℓ (larger i j)
    unfolding Needs Holds
    needs_disj f w h g q =
        let l = larger_le i j in
        ⊎_elim (λ (e : Holds π v n a s h). omega (arith, f h g e, l.0)) (λ (e : Holds π v n b s h). omega (arith, w h g e, l.1)) q

    pub needs_sep : Needs π v n a s ℓ i → Needs π v n b s ℓ j → Needs π v n (sep a b) s ℓ (i + j - 1)
    unfolding Needs Holds
    needs_sep f w h g q =
        let e = f q.0 (first_heap n q.0 q.1 h q.2 g) q.4 in
        let d = w q.1 (second_heap n q.0 q.1 h q.2 g) q.5 in
        omega (arith, e, d, incoming_parts ℓ n q.0 q.1 h q.2, out_parts ℓ q.0 q.1 h q.2)

    pub needs_sept : Caps π v n a s ℓ i → Needs π v n b s ℓ j → Needs π v n (sept a b) s ℓ (j + i - 1)
    unfolding Caps Needs Holds
    needs_sept f w h g q =
        let e = f q.0 q.2 q.5 in
        let d = w q.1 (whole_heap n q.0 h q.1 q.3 q.2 g) q.6 in
        omega (arith, e, d, incoming_parts ℓ n q.0 h q.1 q.3, out_parts ℓ q.0 h q.1 q.3)

  -- a disjunction one side of which cannot hold has the other's bounds
  module _ (a b : Form) (k : ℕ) where
    pub caps_second : Hopeless π v n a s → Caps π v n b s ℓ k → Caps π v n (disj a b) s ℓ k
    unfolding Hopeless Caps Holds
    caps_second none w h g q = ⊎_elim (λ e. absurd (none h g e)) (λ e. w h g e) q

    pub caps_first : Hopeless π v n b s → Caps π v n a s ℓ k → Caps π v n (disj a b) s ℓ k
    unfolding Hopeless Caps Holds
    caps_first none w h g q = ⊎_elim (λ e. w h g e) (λ e. absurd (none h g e)) q

    pub needs_second : Hopeless π v n a s → Needs π v n b s ℓ k → Needs π v n (disj a b) s ℓ k
    unfolding Hopeless Needs Holds
    needs_second none w h g q = ⊎_elim (λ e. absurd (none h g e)) (λ e. w h g e) q

    pub needs_first : Hopeless π v n b s → Needs π v n a s ℓ k → Needs π v n (disj a b) s ℓ k
    unfolding Hopeless Needs Holds
    needs_first none w h g q = ⊎_elim (λ e. w h g e) (λ e. absurd (none h g e)) q

  -- ---- every formula

  bounds_hold : (F : Form) → Caps π v n F s ℓ (cap_of n s ℓ F) × Needs π v n F s ℓ (need_of n s ℓ F)
  unfolding cap_of
  bounds_hold (same x y) = (caps_same x y, needs_same x y)
  bounds_hold (diff x y) = (caps_diff x y, needs_diff x y)
  bounds_hold (pts x y) = (caps_pts x y, needs_pts x y)
  bounds_hold (ls x y) = (caps_ls x y, needs_ls x y)
  bounds_hold (conj a b) =
      let f = bounds_hold a in
      let g = bounds_hold b in
      (caps_conj a b (cap_of n s ℓ a) (cap_of n s ℓ b) f.0 g.0, needs_conj a b (need_of n s ℓ a) (need_of n s ℓ b) f.1 g.1)
  bounds_hold (disj a b) =
      let f = bounds_hold a in
      let g = bounds_hold b in
      (caps_disj a b (cap_of n s ℓ a) (cap_of n s ℓ b) f.0 g.0, needs_disj a b (need_of n s ℓ a) (need_of n s ℓ b) f.1 g.1)
  bounds_hold (but a b) =
      let f = bounds_hold a in
      (caps_but a b (cap_of n s ℓ a) f.0, needs_but a b (need_of n s ℓ a) f.1)
  bounds_hold (neg a) = (caps_any (neg a), needs_any (neg a))
  bounds_hold (sep a b) =
      let f = bounds_hold a in
      let g = bounds_hold b in
      (caps_sep a b (cap_of n s ℓ a) (cap_of n s ℓ b) f.0 g.0, needs_sep a b (need_of n s ℓ a) (need_of n s ℓ b) f.1 g.1)
  bounds_hold (sept a b) =
      let f = bounds_hold a in
      let g = bounds_hold b in
      (caps_sept a b (need_of n s ℓ a) (cap_of n s ℓ b) f.1 g.0, needs_sept a b (cap_of n s ℓ a) (need_of n s ℓ b) f.0 g.1)

pub facts_hold : (π : Profile) (v n : ℕ) (F : Form) (s h : Map) → Heap n h → Holds π v n F s h → (ℓ : ℕ) → FactsAt n F s h ℓ
unfolding Digits Caps Needs
facts_hold π v n F s h k q ℓ =
    let b = bounds_hold π v n s ℓ F in
    record { digit = may_holds π v n s ℓ F h k q; in_most = b.0 h k q; out_most_is = b.1 h k q }
