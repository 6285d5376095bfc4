-- "renumbering the locations from 1 to n .. never changes whether a model fits, in either profile and after [4]". Assumes nothing.
use Rattle.std.specs.Prelude.{◌↔◌, ℕ}
use Rattle.std.proofs.Common.{sym, subst, subst₂, ◌∙◌}
use Rattle.std.proofs.Math.Path.{ap}
use Rattle.std.proofs.Math.Logic.{inl, inr, ⊎_elim}
use Rattle.logic.specs.declared.Profile.{Profile}
use Rattle.logic.specs.declared.Profile.TheVariants.{Strong, Ordinary}
use Rattle.logic.specs.Heap.{Map, Locs, MayMeet, Disjoint, Parts}
use Rattle.logic.specs.Formula.{Form}
use Rattle.logic.specs.Formula.Form.{same, diff, pts, ls, conj, disj, but, neg, sep, sept}
use Rattle.logic.specs.Paths.{Path}
use Rattle.logic.specs.Holds.{Points, Chain, Segment, Holds}
use Rattle.logic.specs.Model.{Fits}
use Rattle.laws.specs.Renumbering.{Renumbering, new_stack, renumbered_digit, new_heap}
use Rattle.laws.proofs.RenumberingLaws.{turned, same_of, stack_back, heap_back, digit_some, heap_at, heap_none, allocated_back, new_heap_is}

module _ (n : ℕ) (to from : Map) (w : Renumbering n to from) where
  locs_back : (h : Map) (ℓ : ℕ) → Locs (new_heap to from h) ℓ → Locs h (from ℓ)
  unfolding new_heap
  locs_back h ℓ q = ⊎_elim (λ f. inl (allocated_back n to from w h ℓ f)) (λ q. inr (from q.0, digit_some n to from w (h (from q.0)) ℓ q.1)) q

  new_meet : (π : Profile) (v : ℕ) (s : Map) (ℓ : ℕ) → MayMeet π v s (from ℓ) → MayMeet π v (new_stack to s) ℓ
  unfolding new_stack
  new_meet Strong v s ℓ q = (q.0, q.1, ap to q.2 ∙ w.back ℓ)
  new_meet Ordinary v s ℓ q = tt

  new_disjoint : (π : Profile) (v : ℕ) (s g h : Map) → Disjoint π v s g h → Disjoint π v (new_stack to s) (new_heap to from g) (new_heap to from h)
  new_disjoint π v s g h d =
      record {
        alone = λ ℓ q. d.alone (from ℓ) (allocated_back n to from w g ℓ q.0, allocated_back n to from w h ℓ q.1);
        meet = λ ℓ a b. new_meet π v s ℓ (d.meet (from ℓ) (locs_back g ℓ a) (locs_back h ℓ b));
      }

  new_parts : (g r h : Map) → Parts g r h → Parts (new_heap to from g) (new_heap to from r) (new_heap to from h)
  unfolding new_heap
  new_parts g r h p ℓ =
      ⊎_elim (λ q. inl (ap (renumbered_digit to) q.0, ap (renumbered_digit to) q.1)) (λ q. inr (ap (renumbered_digit to) q.0, ap (renumbered_digit to) q.1)) (p (from ℓ))

  new_points : (a b : ℕ) (h : Map) → Points a b h → Points (to a) (to b) (new_heap to from h)
  new_points a b h q =
      record { here = heap_at n to from w h a ∙ ap (renumbered_digit to) q.here; only = λ ℓ f. sym (w.back ℓ) ∙ ap to (q.only (from ℓ) (allocated_back n to from w h ℓ f)) }

  new_path : (k : ℕ) (h : Map) → Path k h → Path k (new_heap to from h)
  new_path k h q =
      record {
        at = λ i. to (q.at i);
        link = λ i l. heap_at n to from w h (q.at i) ∙ ap (renumbered_digit to) (q.link i l);
        different = λ i j l m e. q.different i j l m (same_of n to from w (q.at i) (q.at j) e);
      }

  new_segment : (a b : ℕ) (h : Map) → Segment a b h → Segment (to a) (to b) (new_heap to from h)
  unfolding new_path
  new_segment a b h q =
      ⊎_elim (λ y. inl (ap to y.0, λ ℓ. heap_none n to from w h ℓ (y.1 (from ℓ)))) (λ y. inr (y.0, y.1, chain y.0 y.2)) q
    where
      chain : (k : ℕ) → Chain k a b h → Chain k (to a) (to b) (new_heap to from h)
      chain k c =
          let p = new_path k h (record { at = c.at; link = c.link; different = c.different }) in
          record {
            at = p.at;
            first = ap to c.first;
            last = ap to c.last;
            link = p.link;
            different = p.different;
            only = λ ℓ f. let q = c.only (from ℓ) (allocated_back n to from w h ℓ f) in (q.0, q.1, ap to q.2 ∙ w.back ℓ);
          }

module _ (π : Profile) (v n : ℕ) where
  pub holds_new : (F : Form) (to from : Map) → Renumbering n to from → (s h : Map) → Holds π v n F s h → Holds π v n F (new_stack to s) (new_heap to from h)
  unfolding Holds new_stack
  holds_new (same x y) to from w s h q = (ap to q.0, λ ℓ. heap_none n to from w h ℓ (q.1 (from ℓ)))
  holds_new (diff x y) to from w s h q = (λ e. q.0 (same_of n to from w (s x) (s y) e), λ ℓ. heap_none n to from w h ℓ (q.1 (from ℓ)))
  holds_new (pts x y) to from w s h q = new_points n to from w (s x) (s y) h q
  holds_new (ls x y) to from w s h q = new_segment n to from w (s x) (s y) h q
  holds_new (conj a b) to from w s h q = (holds_new a to from w s h q.0, holds_new b to from w s h q.1)
  holds_new (disj a b) to from w s h q = ⊎_elim (λ y. inl (holds_new a to from w s h y)) (λ y. inr (holds_new b to from w s h y)) q
  holds_new (but a b) to from w s h q = (holds_new a to from w s h q.0, λ y. q.1 (subst₂ (Holds π v n b) (stack_back n to from w s) (heap_back n to from w h) (holds_new b from to (turned n to from w) (new_stack to s) (new_heap to from h) y)))
  holds_new (neg a) to from w s h q = λ y. q (subst₂ (Holds π v n a) (stack_back n to from w s) (heap_back n to from w h) (holds_new a from to (turned n to from w) (new_stack to s) (new_heap to from h) y))
  holds_new (sep a b) to from w s h q = (
    new_heap to from q.0,
    new_heap to from q.1,
    new_parts n to from w q.0 q.1 h q.2,
    new_disjoint n to from w π v s q.0 q.1 q.3,
    holds_new a to from w s q.0 q.4,
    holds_new b to from w s q.1 q.5,
  )
  holds_new (sept a b) to from w s h q = (
    new_heap to from q.0,
    new_heap to from q.1,
    new_heap_is n to from w q.0 q.2,
    new_parts n to from w q.0 h q.1 q.3,
    new_disjoint n to from w π v s q.0 h q.4,
    holds_new a to from w s q.0 q.5,
    holds_new b to from w s q.1 q.6,
  )

  -- what holds of the new numbers held of the old ones
  holds_old : (F : Form) (to from : Map) → Renumbering n to from → (s h : Map) → Holds π v n F (new_stack to s) (new_heap to from h) → Holds π v n F s h
  holds_old F to from w s h q =
      subst₂ (Holds π v n F) (stack_back n to from w s) (heap_back n to from w h)
      (holds_new F from to (turned n to from w) (new_stack to s) (new_heap to from h) q)

  -- "never changes whether a model fits"
  pub renumbered : (p : ℕ) (F : Form) (to from : Map) → Renumbering n to from → (s h : Map) → Fits π v n p F s h ↔ Fits π v n p F (new_stack to s) (new_heap to from h)
  renumbered p F to from w s h = (
    λ q. (holds_new F to from w s h q.0, λ k l y. q.1 k l (old k y)),
    λ q. (holds_old F to from w s h q.0, λ k l y. q.1 k l (new_path n to from w k h y)),
  )
    where
      old : (k : ℕ) → Path k (new_heap to from h) → Path k h
      old k y = subst (Path k) (heap_back n to from w h) (new_path n from to (turned n to from w) k (new_heap to from h) y)
