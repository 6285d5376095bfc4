-- Each satisfying assignment yields a model that fits: the condition of an encodable formula gives its truth. Assumes nothing.
use Rattle.std.proofs.Common.{sym}
use Rattle.std.proofs.Math.Path.{subst}
use Rattle.std.proofs.Math.Logic.{inl, inr, ⊎_elim}
use Rattle.std.specs.Prelude.{◌↔◌, ℕ, ◌+◌}
use Rattle.logic.specs.declared.Profile.{Profile}
use Rattle.logic.specs.Heap.{Map, Disjoint, Parts}
use Rattle.logic.specs.Formula.{Form}
use Rattle.logic.specs.Formula.Form.{same, diff, pts, ls, conj, disj, but, neg, sep, sept}
use Rattle.logic.specs.Holds.{Holds}
use Rattle.rows.specs.Assignment.{Assignment, ValuesInRange, on}
use Rattle.rows.specs.Table.{arrays_in, sets_in, Flat, Encodable}
use Rattle.rows.specs.Condition.{Condition}
use Rattle.rows.proofs.OnSet.{on_heap, empty_on, points_on, splits_parts, same_on}
use Rattle.rows.proofs.OnSetLaws.{segment_on, apart_disjoint}

module _ (π : Profile) (v n : ℕ) (ν : Assignment) (k : ValuesInRange v n ν) where
  -- the truth of a formula on array A and set S
  abbrev Truth : Form → ℕ → ℕ → Type 0
  Truth F A S = Holds π v n F ν.stack (on (ν.array A) (ν.set S))

  -- a formula without operators 9 and 10 adds nothing: its condition is its truth
  pub flat : (F : Form) (A S i j : ℕ) → Flat F → Condition π v n ν F A S i j ↔ Truth F A S
  unfolding Flat Holds Condition
  flat (same x y) A S i j c = let e = empty_on (ν.array A) (ν.set S) in (λ q. (q.0, e.0 q.1), λ q. (q.0, e.1 q.1))
  flat (diff x y) A S i j c = let e = empty_on (ν.array A) (ν.set S) in (λ q. (q.0, e.0 q.1), λ q. (q.0, e.1 q.1))
  flat (pts x y) A S i j c = points_on (ν.array A) (ν.set S) (k.nil S) (ν.stack x) (ν.stack y)
  flat (ls x y) A S i j c = segment_on (ν.array A) (ν.set S) (k.nil S) n (ν.stack x) (ν.stack y) (on_heap v n ν A S k)
  flat (conj a b) A S i j c =
      let f = flat a A S i j c.0 in
      let g = flat b A S (i + arrays_in a) (j + sets_in a) c.1 in
      (λ q. (f.0 q.0, g.0 q.1), λ q. (f.1 q.0, g.1 q.1))
  flat (disj a b) A S i j c =
      let f = flat a A S i j c.0 in
      let g = flat b A S (i + arrays_in a) (j + sets_in a) c.1 in
      (⊎_elim (λ q. inl (f.0 q)) (λ q. inr (g.0 q)), ⊎_elim (λ q. inl (f.1 q)) (λ q. inr (g.1 q)))
  flat (but a b) A S i j c =
      let f = flat a A S i j c.0 in
      let g = flat b A S (i + arrays_in a) (j + sets_in a) c.1 in
      (λ q. (f.0 q.0, λ y. q.1 (g.1 y)), λ q. (f.1 q.0, λ y. q.1 (g.0 y)))
  flat (neg a) A S i j c = let f = flat a A S i j c in (λ q y. q (f.1 y), λ q y. q (f.0 y))
  flat (sep a b) A S i j c = absurd c
  flat (sept a b) A S i j c = absurd c

  pub sound : (F : Form) (A S i j : ℕ) → Encodable F → Condition π v n ν F A S i j → Truth F A S
  unfolding Encodable Holds Condition
  sound (same x y) A S i j c q = (flat (same x y) A S i j (unfold Flat in tt)).0 (unfold Condition in q)
  sound (diff x y) A S i j c q = (flat (diff x y) A S i j (unfold Flat in tt)).0 (unfold Condition in q)
  sound (pts x y) A S i j c q = (flat (pts x y) A S i j (unfold Flat in tt)).0 (unfold Condition in q)
  sound (ls x y) A S i j c q = (flat (ls x y) A S i j (unfold Flat in tt)).0 (unfold Condition in q)
  sound (conj a b) A S i j c q = (sound a A S i j c.0 q.0, sound b A S (i + arrays_in a) (j + sets_in a) c.1 q.1)
  sound (disj a b) A S i j c q = ⊎_elim (λ y. inl (sound a A S i j c.0 y)) (λ y. inr (sound b A S (i + arrays_in a) (j + sets_in a) c.1 y)) q
  sound (but a b) A S i j c q = (sound a A S i j c.0 q.0, λ y. q.1 ((flat b A S (i + arrays_in a) (j + sets_in a) c.1).1 y))
  sound (neg a) A S i j c q = λ y. q ((flat a A S i j c).1 y)
  sound (sep a b) A S i j c q = (
    on (ν.array A) (ν.set j),
    on (ν.array A) (ν.set (j + 1)),
    splits_parts (ν.array A) (ν.set S) (ν.set j) (ν.set (j + 1)) q.0.1,
    apart_disjoint π v ν.stack (ν.array A) (ν.set j) (ν.set (j + 1)) q.0.1.alone q.1,
    sound a A j i (j + 2) c.0 q.0.0.0,
    sound b A (j + 1) (i + arrays_in a) (j + 2 + sets_in a) c.1 q.0.0.1,
  )
  sound (sept a b) A S i j c q =
      let e = same_on (ν.array A) (ν.array i) (ν.set S) q.1 in
      let g = on (ν.array i) (ν.set j) in (
        g,
        on (ν.array i) (ν.set (j + 1)),
        on_heap v n ν i j k,
        subst (λ (h : Map). Parts g h (on (ν.array i) (ν.set (j + 1)))) (sym e) (splits_parts (ν.array i) (ν.set (j + 1)) (ν.set j) (ν.set S) q.0.0.1),
        subst (λ (h : Map). Disjoint π v ν.stack g h) (sym e) (apart_disjoint π v ν.stack (ν.array i) (ν.set j) (ν.set S) q.0.0.1.alone q.0.1),
        sound a i j (i + 1) (j + 2) c.0 q.0.0.0.0,
        sound b i (j + 1) (i + 1 + arrays_in a) (j + 2 + sets_in a) c.1 q.0.0.0.1,
      )
