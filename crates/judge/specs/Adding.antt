-- The search for an added heap: from location n down, digit by digit upward, no heap that could serve is passed over. Assumes
-- nothing.
use Rattle.std.specs.Prelude.{◌≡◌, refl, Bool, true, false, ◌⊎◌, ℕ, zero, suc, ◌+◌, ◌-◌, ◌^◌, ◌<◌, ◌≤◌}
use Rattle.std.proofs.Common.{sym, subst, ◌∙◌, ap, inl, inr, ⊎_elim, zero-le, not-suc-le-zero, eq-or-lt_of_le, arith, eq-eqb, ne_eqb}
use Rattle.std.proofs.Math.Path.{fun_ext}
use Rattle.std.proofs.Math.Decide.{dec_le, ℕ_discrete}
use Rattle.std.specs.Int.Bits.{bit_or}
use Rattle.logic.specs.declared.Profile.{Profile}
use Rattle.logic.specs.Heap.{Map, Heap, Disjoint}
use Rattle.logic.specs.Tests.{andb, any, in_part, union, sept_at}
use Rattle.logic.specs.Reflect.{Is}
use Rattle.logic.proofs.Reflect.{is_same, false_true, is_iff, is_self, is_and, same_of_not}
use Rattle.logic.proofs.Agree.{union_heap, union_parts, union_is, is_sept}
use Rattle.cells.specs.Cells.{cells, Placed, Barred, Touches, Met, Source, SourceBelow, Target}
use Rattle.cells.specs.Packing.{cells_zero}
use Rattle.cells.specs.Heaps.{put_at, or_union}
use Rattle.cells.specs.Tables.{touches_locs, locs_touches, touches_nothing, disjoint_meets, meets_disjoint}
use Rattle.judge.specs.Setting.{Serves, Above, Some, SomeAt, Filled, Tried}

module _ {π : Profile} (v n u : ℕ) (s : Map) (un : Barred π v n s u) (w : ℕ) (kw : Heap n (cells w)) where
  -- ---- the heap so far

  -- nothing is filled yet
  pub fill_first : (met : ℕ) → Met u w met → Filled n u w met n 0
  fill_first met k =
      record {
        up_to = omega arith;
        heap = record { nil = cells_zero 0; past = λ ℓ _. cells_zero ℓ; low = λ ℓ. rw (cells_zero ℓ) zero-le };
        below = λ ℓ _. cells_zero ℓ;
        free = λ ℓ. inl (cells_zero ℓ);
        quiet = λ ℓ j t. absurd (touches_nothing ℓ j (subst (λ (x : ℕ). Touches ℓ x j) (cells_zero ℓ) t));
        meets = k;
      }

  module _ (met l g : ℕ) (fi : Filled n u w met l g) where
    fill_apart : Disjoint π v s (cells g) (cells w)
    fill_apart =
        meets_disjoint v n u s un (cells g) (cells w) fi.heap fi.free
        (λ m. let q = locs_touches (cells g) m.0 m.1 in fi.quiet q.0 m.0 q.1 ((fi.meets.member m.0).from (m.2, m.3)))

    pub whole_heap : Heap n (cells (bit_or g w))
    whole_heap = rw (or_union g w fi.free) (union_heap n (cells g) (cells w) fi.heap kw)

    pub fill_less : (r : ℕ) → r ≤ l → Filled n u w met r g
    fill_less r h =
        record {
          up_to = omega (arith, fi.up_to);
          heap = fi.heap;
          below = λ ℓ k. fi.below ℓ (omega arith);
          free = fi.free;
          quiet = fi.quiet;
          meets = fi.meets;
        }

    -- a cell put in at l
    module _ (d r : ℕ) (h : 0 < l) (ld : d ≤ suc n) (p : Placed d l r) where
      put_here : cells (bit_or g r) l ≡ d
      put_here = put_at g d l r (fi.below l (omega arith)) p l ∙ rw (eq-eqb l l refl)

      put_there : (ℓ : ℕ) → ¬ (ℓ ≡ l) → cells (bit_or g r) ℓ ≡ cells g ℓ
      put_there ℓ e = put_at g d l r (fi.below l (omega arith)) p ℓ ∙ rw (ne_eqb ℓ l e)

      put_each : (P : ℕ → ℕ → Type 0) → P l d → ((ℓ : ℕ) → P ℓ (cells g ℓ)) → (ℓ : ℕ) → P ℓ (cells (bit_or g r) ℓ)
      put_each P a c ℓ = go (ℕ_discrete ℓ l)
        where
          go : Dec (ℓ ≡ l) → P ℓ (cells (bit_or g r) ℓ)
          go (yes e) = subst (λ (i : ℕ). P i (cells (bit_or g r) i)) (sym e) (subst (P l) (sym put_here) a)
          go (no e) = subst (P ℓ) (sym (put_there ℓ e)) (c ℓ)

      pub put_filled : Source w met l → Target met d → Filled n u w met (l - 1) (bit_or g r)
      put_filled so ta =
          record {
            up_to = omega (arith, fi.up_to);
            heap = record {
              nil = put_there 0 (λ (e : 0 ≡ l). omega arith) ∙ fi.heap.nil;
              past = λ ℓ k. put_there ℓ (λ (e : ℓ ≡ l). omega (arith, fi.up_to)) ∙ fi.heap.past ℓ k;
              low = put_each (λ ℓ x. x ≤ suc n) ld fi.heap.low;
            };
            below = λ ℓ k. put_there ℓ (λ (e : ℓ ≡ l). omega arith) ∙ fi.below ℓ (omega arith);
            free = put_each (λ ℓ x. (x ≡ 0) ⊎ (cells w ℓ ≡ 0)) (inr so.0) fi.free;
            quiet = put_each (λ ℓ x. (j : ℕ) → Touches ℓ x j → ¬ (in_part met j ≡ true)) here fi.quiet;
            meets = fi.meets;
          }
        where
          here : (j : ℕ) → Touches l d j → ¬ (in_part met j ≡ true)
          here j t q = ⊎_elim (λ o. so.1 (ap (in_part met) (sym o.1) ∙ q)) (λ e. ta j e q) t

    -- ---- the heaps that serve, for two tests A and B
    module _ (A B : Map → Bool) where
      -- a heap that serves touches none of met
      serves_quiet : (z : Map) → Serves π v n s A B (cells w) z → (ℓ j : ℕ) → Touches ℓ (z ℓ) j → ¬ (in_part met j ≡ true)
      serves_quiet z o ℓ j t q =
          let m = (fi.meets.member j).to q in
          disjoint_meets v n u s un z (cells w) o.apart (j, touches_locs z ℓ j t, m.0, m.1)

      -- and so has no cell where none may be added
      serves_sources : (z : Map) → Serves π v n s A B (cells w) z → (ℓ : ℕ) → ¬ Source w met ℓ → z ℓ ≡ 0
      serves_sources z o ℓ f =
          same_of_not (z ℓ) 0
          (λ a. f (same_of_not (cells w ℓ) 0 (λ b. o.apart.alone ℓ (a, b)), serves_quiet z o ℓ ℓ (inl (a, refl))))

      -- locations at which no cell may be added are passed over
      pub fill_skip : (r : ℕ) (b : Bool) → SourceBelow w met l r → Is b (Some π v n s A B (cells w) r (cells g)) → Is b (Some π v n s A B (cells w) l (cells g))
      fill_skip r b sb i =
          is_iff i (λ o. (o.0, o.1, λ ℓ k. o.2 ℓ (omega (arith, sb.low)))) (λ o. (o.0, o.1, λ ℓ k. each o.0 o.1 o.2 ℓ k (dec_le ℓ l)))
        where
          above : {ℓ : ℕ} → ¬ (ℓ ≤ l) → l < ℓ
          above q = omega arith

          each : (z : Map) → Serves π v n s A B (cells w) z → Above l z (cells g) → (ℓ : ℕ) → r < ℓ → Dec (ℓ ≤ l) → z ℓ ≡ cells g ℓ
          each z o a ℓ k (yes m) = serves_sources z o ℓ (sb.passed ℓ k m) ∙ sym (fi.below ℓ m)
          each z o a ℓ k (no m) = a ℓ (above m)

      -- digit d at l would meet w at a location that is not named
      pub fill_clash : (d : ℕ) → ¬ Target met d → Is false (SomeAt π v n s A B (cells w) l (cells g) d)
      fill_clash d f =
          record {
            to = λ t. false_true t;
            from = λ o. absurd (f (λ j e. serves_quiet o.0 o.1 l j (inr (o.3 ∙ e))));
          }

      -- at l and above it is above l - 1
      at_and_above : (z y : Map) → z l ≡ y l → Above l z y → Above (l - 1) z y
      at_and_above z y e a ℓ k = go (ℕ_discrete ℓ l)
        where
          more : ¬ (ℓ ≡ l) → l < ℓ
          more q = omega arith

          go : Dec (ℓ ≡ l) → z ℓ ≡ y ℓ
          go (yes q) = subst (λ (i : ℕ). z i ≡ y i) (sym q) e
          go (no q) = a ℓ (more q)

      pub put_found : (d r : ℕ) (h : 0 < l) (ld : d ≤ suc n) (p : Placed d l r) (b : Bool) → Is b (Some π v n s A B (cells w) (l - 1) (cells (bit_or g r))) → Is b (SomeAt π v n s A B (cells w) l (cells g) d)
      put_found d r h ld p b i =
          is_iff i
          (λ o. (o.0, o.1, λ ℓ k. o.2 ℓ (omega arith) ∙ put_there d r h ld p ℓ (λ (e : ℓ ≡ l). omega arith), o.2 l (omega arith) ∙ put_here d r h ld p))
          (λ o. (o.0, o.1, at_and_above o.0 (cells (bit_or g r)) (o.3 ∙ sym (put_here d r h ld p)) (λ ℓ k. o.2 ℓ k ∙ sym (put_there d r h ld p ℓ (λ (e : ℓ ≡ l). omega arith)))))

  -- every location is filled
  pub fill_last : (met g : ℕ) → Filled n u w met 0 g → (A B : Map → Bool) (r : Bool) → r ≡ andb (A (cells g)) (B (cells (bit_or g w))) → Is r (Some π v n s A B (cells w) 0 (cells g))
  fill_last met g fi A B r q =
      is_iff (subst (λ (b : Bool). Is b ((A (cells g) ≡ true) × (B (cells (bit_or g w)) ≡ true))) (sym q) (is_and (A (cells g)) (B (cells (bit_or g w))) (is_self (A (cells g))) (is_self (B (cells (bit_or g w))))))
      (λ o. (cells g, record { heap = fi.heap; apart = fill_apart met 0 g fi; added = o.0; whole = rw (or_union g w fi.free) at o.1 }, λ ℓ _. refl))
      (λ o. let same : o.0 ≡ cells g = fun_ext (each o.0 o.1 o.2) in (rw same at o.1.added, rw (or_union g w fi.free) (rw same at o.1.whole)))
    where
      each : (z : Map) → Serves π v n s A B (cells w) z → Above 0 z (cells g) → (ℓ : ℕ) → z ℓ ≡ cells g ℓ
      each z o a zero = o.heap.nil ∙ sym fi.heap.nil
      each z o a (suc i) = a (suc i) (omega arith)

  -- ---- the digits at l, upward
  module _ (A B : Map → Bool) (l : ℕ) (y : Map) where
    pub tried_none : Tried π v n s A B (cells w) l y 0
    tried_none z o a h = not-suc-le-zero h

    pub tried_more : (d : ℕ) (r : Bool) → Tried π v n s A B (cells w) l y d → Is r (SomeAt π v n s A B (cells w) l y d) → r ≡ false → Tried π v n s A B (cells w) l y (d + 1)
    tried_more d r t i e z o a h =
        ⊎_elim (λ (q : z l ≡ d). false_true (sym e ∙ i.from (z, o, a, q))) (λ (q : z l < d). t z o a q) (eq-or-lt_of_le (omega arith))

    pub tried_found : (d : ℕ) (r : Bool) → Is r (SomeAt π v n s A B (cells w) l y d) → r ≡ true → Is true (Some π v n s A B (cells w) l y)
    tried_found d r i e = let q = i.to e in record { to = λ _. (q.0, q.1, q.2); from = λ _. refl }

    pub tried_all : (d : ℕ) → suc n < d → Tried π v n s A B (cells w) l y d → Is false (Some π v n s A B (cells w) l y)
    tried_all d h t = record { to = λ e. false_true e; from = λ q. absurd (t q.0 q.1 q.2 (omega (arith, q.1.heap.low l))) }

  -- ---- what is found is what the computed truth finds among the heaps by number
  pub added_is : (A B : Map → Bool) (r : Bool) → Is r (Some π v n s A B (cells w) n (cells 0)) → r ≡ any ((n + 2) ^ n) (sept_at π v n s (cells w) A B)
  added_is A B r i =
      is_same r (any ((n + 2) ^ n) (sept_at π v n s (cells w) A B)) i
      (is_iff (is_sept π v n s A B (λ z. A z ≡ true) (λ z. B z ≡ true) (λ z _. is_self (A z)) (λ z _. is_self (B z)) (cells w) kw)
      (λ q. (
        q.0,
        record { heap = q.2; apart = q.4; added = q.5; whole = subst (λ (z : Map). B z ≡ true) (sym (union_is q.0 (cells w) q.1 q.3)) q.6 },
        λ ℓ k. q.2.past ℓ k ∙ sym (cells_zero ℓ),
      ))
      (λ q. (q.0, union q.0 (cells w), q.1.heap, union_parts q.0 (cells w) q.1.apart.alone, q.1.apart, q.1.added, q.1.whole)))
