-- Each test of specs/Tests.antt says what document 01's words say: empty, points, locs, named, strongly disjoint, parts, added
-- heaps. (Chains have a file of their own.) Assumes nothing.
use Rattle.std.specs.Prelude.{◌≡◌, refl, Bool, true, false, not, ◌⊎◌, ℕ, zero, suc, ◌+◌, ◌^◌, ◌<◌, ◌≤◌, eqb, ltb}
use Rattle.std.proofs.Common.{sym, ◌∙◌, ap, zero-le, le_of_suc-le-suc, arith, eq-eqb, ne_eqb, lt-ltb, le-ltb}
use Rattle.std.proofs.Math.Path.{fun_ext}
use Rattle.std.proofs.Math.Logic.{inl, inr, ⊎_elim}
use Rattle.std.proofs.Math.Decide.{dec_lt, dec_le, ℕ_discrete}
use Rattle.logic.specs.declared.Profile.{Profile}
use Rattle.logic.specs.declared.Profile.TheVariants.{Strong, Ordinary}
use Rattle.logic.specs.Heap.{Map, Heap, Allocated, Locs, MayMeet, Disjoint, Parts, Empty}
use Rattle.logic.specs.Holds.{Points}
use Rattle.logic.specs.Tests.{andb, orb, pick, any, all, digit, in_part, heap_of, allocated, part, rest, union, may_meet, empty, is_value, in_locs, within, apart_at, apart, points, sep_at, sept_at}
use Rattle.logic.specs.Digits.{num_of}
use Rattle.logic.proofs.Digits.{num_of_lt, digit_num, digit_lt}
use Rattle.logic.specs.Reflect.{Is}
use Rattle.logic.proofs.NamedTest.{is_named}
use Rattle.logic.proofs.Reflect.{is_iff, is_self, is_eq, is_and, is_or, is_not, is_all, is_any, decided, same_of_not}

pub is_allocated : (h : Map) (ℓ : ℕ) → Is (allocated h ℓ) (Allocated h ℓ)
is_allocated h ℓ = is_not (eqb (h ℓ) 0) (is_eq (h ℓ) 0)

-- a map that is h or 0 at each location is a heap where h is
pub heap_sub : (n : ℕ) (g h : Map) → ((ℓ : ℕ) → (g ℓ ≡ h ℓ) ⊎ (g ℓ ≡ 0)) → Heap n h → Heap n g
heap_sub n g h p k =
    record {
      nil = ⊎_elim (λ e. e ∙ k.nil) (λ e. e) (p 0);
      past = λ ℓ l. ⊎_elim (λ e. e ∙ k.past ℓ l) (λ e. e) (p ℓ);
      low = λ ℓ. ⊎_elim (λ (e : g ℓ ≡ h ℓ). omega (arith, k.low ℓ)) (λ (e : g ℓ ≡ 0). omega arith) (p ℓ);
    }

-- a heap over fewer locations is one over more
pub heap_more : (n n' : ℕ) (h : Map) → n ≤ n' → Heap n h → Heap n' h
heap_more n n' h l k = record { nil = k.nil; past = λ ℓ q. k.past ℓ (omega arith); low = λ ℓ. omega (arith, k.low ℓ) }

-- an allocated location is one of 1 to n
pub allocated_low : (n : ℕ) (h : Map) (ℓ : ℕ) → Heap n h → Allocated h ℓ → ℓ ≤ n
allocated_low n h ℓ k a = go (dec_le ℓ n)
  where
    go : Dec (ℓ ≤ n) → ℓ ≤ n
    go (yes l) = l
    go (no l) = absurd (a (k.past ℓ (omega arith)))

pub locs_low : (n : ℕ) (h : Map) (ℓ : ℕ) → Heap n h → Locs h ℓ → ℓ ≤ n
locs_low n h ℓ k q = ⊎_elim (λ a. allocated_low n h ℓ k a) (λ q. omega (arith, k.low q.0, q.1)) q

pub is_empty : (n : ℕ) (h : Map) → Heap n h → Is (empty n h) (Empty h)
unfolding empty
is_empty n h k =
    is_iff (is_all (λ ℓ. eqb (h ℓ) 0) (λ ℓ. h ℓ ≡ 0) (suc n) (λ i l. is_eq (h i) 0))
    (λ q ℓ. same_of_not (h ℓ) 0 (λ a. a (q ℓ (omega (arith, allocated_low n h ℓ k a)))))
    (λ q i l. q i)

pick_case : (ℓ a b : ℕ) → (ℓ ≡ a → pick (eqb ℓ a) (suc b) 0 ≡ suc b) × (¬ (ℓ ≡ a) → pick (eqb ℓ a) (suc b) 0 ≡ 0)
pick_case ℓ a b = (λ e. rw (eq-eqb ℓ a e), λ e. rw (ne_eqb ℓ a e))

pub is_points : (n a b : ℕ) (h : Map) → a ≤ n → Heap n h → Is (points n a b h) (Points a b h)
unfolding points
is_points n a b h l k =
    is_iff (is_and (not (eqb a 0)) (all (suc n) (λ ℓ. eqb (h ℓ) (pick (eqb ℓ a) (suc b) 0))) (is_not (eqb a 0) (is_eq a 0))
    (is_all (λ ℓ. eqb (h ℓ) (pick (eqb ℓ a) (suc b) 0)) (λ ℓ. h ℓ ≡ pick (eqb ℓ a) (suc b) 0) (suc n) (λ i m. is_eq (h i) (pick (eqb i a) (suc b) 0))))
    (λ q. record { here = q.1 a (omega arith) ∙ (pick_case a a b).0 refl; only = λ ℓ f. same_of_not ℓ a (λ d. f (q.1 ℓ (omega (arith, allocated_low n h ℓ k f)) ∙ (pick_case ℓ a b).1 d)) })
    (λ q. (λ z. some q z, λ i m. back q i (ℕ_discrete i a)))
  where
    some : Points a b h → ¬ (a ≡ 0)
    some q z = let e : 0 ≡ suc b = sym k.nil ∙ ap h (sym z) ∙ q.here in absurd (omega arith)

    back : Points a b h → (i : ℕ) → Dec (i ≡ a) → h i ≡ pick (eqb i a) (suc b) 0
    back q i (yes e) = ap h e ∙ q.here ∙ sym ((pick_case i a b).0 e)
    back q i (no e) = same_of_not (h i) 0 (λ f. e (q.only i f)) ∙ sym ((pick_case i a b).1 e)

pub is_locs : (n : ℕ) (h : Map) (ℓ : ℕ) → Heap n h → Is (in_locs n h ℓ) (Locs h ℓ)
unfolding in_locs is_value
is_locs n h ℓ k =
    is_iff (is_or (allocated h ℓ) (any (suc n) (λ j. eqb (h j) (suc ℓ))) (is_allocated h ℓ)
    (is_any (λ j. eqb (h j) (suc ℓ)) (λ j. h j ≡ suc ℓ) (suc n) (λ i l. is_eq (h i) (suc ℓ))))
    (⊎_elim inl (λ q. inr (q.0, q.2)))
    (⊎_elim inl (λ q. inr (q.0, omega (arith, allocated_low n h q.0 k (λ z. absurd (omega (arith, z, q.1)))), q.1)))

pub is_may_meet : (π : Profile) (v : ℕ) (s : Map) (ℓ : ℕ) → Is (may_meet π v s ℓ) (MayMeet π v s ℓ)
is_may_meet Strong v s ℓ = is_named v s ℓ
is_may_meet Ordinary v s ℓ = record { to = λ _. tt; from = λ _. refl }

module _ (π : Profile) (v n : ℕ) (s g h : Map) (kg : Heap n g) (kh : Heap n h) where
  -- strongly disjoint, at one location
  ApartAt : ℕ → Type 0
  ApartAt ℓ = (¬ (Allocated g ℓ × Allocated h ℓ)) × ((¬ Locs g ℓ) ⊎ ((¬ Locs h ℓ) ⊎ MayMeet π v s ℓ))

  is_apart_at : (ℓ : ℕ) → Is (apart_at π v n s g h ℓ) (ApartAt ℓ)
  unfolding apart_at ApartAt
  is_apart_at ℓ =
      is_and (not (andb (allocated g ℓ) (allocated h ℓ))) (orb (not (in_locs n g ℓ)) (orb (not (in_locs n h ℓ)) (may_meet π v s ℓ)))
      (is_not (andb (allocated g ℓ) (allocated h ℓ)) (is_and (allocated g ℓ) (allocated h ℓ) (is_allocated g ℓ) (is_allocated h ℓ)))
      (is_or (not (in_locs n g ℓ)) (orb (not (in_locs n h ℓ)) (may_meet π v s ℓ)) (is_not (in_locs n g ℓ) (is_locs n g ℓ kg))
      (is_or (not (in_locs n h ℓ)) (may_meet π v s ℓ) (is_not (in_locs n h ℓ) (is_locs n h ℓ kh)) (is_may_meet π v s ℓ)))

  pub is_apart : Is (apart π v n s g h) (Disjoint π v s g h)
  unfolding apart ApartAt
  is_apart =
      is_iff (is_all (apart_at π v n s g h) ApartAt (suc n) (λ ℓ l. is_apart_at ℓ))
      (λ q. record {
        alone = λ ℓ both. (q ℓ (omega (arith, allocated_low n g ℓ kg both.0))).0 both;
        meet = λ ℓ a b. ⊎_elim (λ f. absurd (f a)) (⊎_elim (λ f. absurd (f b)) (λ y. y)) (q ℓ (omega (arith, locs_low n g ℓ kg a))).1;
      })
      (λ q ℓ l. (q.alone ℓ, in_g ℓ (q.meet ℓ)))
    where
      in_h : (ℓ : ℕ) → (Locs h ℓ → MayMeet π v s ℓ) → (¬ Locs h ℓ) ⊎ MayMeet π v s ℓ
      in_h ℓ f = ⊎_elim (λ q. inr (f q)) inl (decided (in_locs n h ℓ) (is_locs n h ℓ kh))

      in_g : (ℓ : ℕ) → (Locs g ℓ → Locs h ℓ → MayMeet π v s ℓ) → (¬ Locs g ℓ) ⊎ ((¬ Locs h ℓ) ⊎ MayMeet π v s ℓ)
      in_g ℓ f = ⊎_elim (λ q. inr (in_h ℓ (f q))) inl (decided (in_locs n g ℓ) (is_locs n g ℓ kg))

-- ---- parts and their numbers

abbrev bit_of : ℕ → ℕ
bit_of x = pick (eqb x 0) 0 1

bit_lt : (b : Bool) → pick b 0 1 < 2
bit_lt true = omega arith
bit_lt false = omega arith

bit_is : (b : Bool) → eqb (pick b 0 1) 1 ≡ not b
bit_is true = refl
bit_is false = refl

pub part_parts : (h : Map) (m : ℕ) → Parts (part h m) (rest h m) h
unfolding part rest
part_parts h m ℓ = go (in_part m ℓ)
  where
    go : (b : Bool) → ((pick b (h ℓ) 0 ≡ h ℓ) × (pick b 0 (h ℓ) ≡ 0)) ⊎ ((pick b (h ℓ) 0 ≡ 0) × (pick b 0 (h ℓ) ≡ h ℓ))
    go true = inl (refl, refl)
    go false = inr (refl, refl)

-- two parts of a heap are heaps
pub first_heap : (n : ℕ) (g r h : Map) → Parts g r h → Heap n h → Heap n g
first_heap n g r h pt k = heap_sub n g h (λ ℓ. ⊎_elim (λ q. inl q.0) (λ q. inr q.0) (pt ℓ)) k

pub second_heap : (n : ℕ) (g r h : Map) → Parts g r h → Heap n h → Heap n r
second_heap n g r h pt k = heap_sub n r h (λ ℓ. ⊎_elim (λ q. inr q.1) (λ q. inl q.1) (pt ℓ)) k

pub part_heap : (n : ℕ) (h : Map) (m : ℕ) → Heap n h → Heap n (part h m)
part_heap n h m k = first_heap n (part h m) (rest h m) h (part_parts h m) k

pub rest_heap : (n : ℕ) (h : Map) (m : ℕ) → Heap n h → Heap n (rest h m)
rest_heap n h m k = second_heap n (part h m) (rest h m) h (part_parts h m) k

-- the number of the part on which g is allocated
mask : ℕ → Map → ℕ
mask n g = num_of 2 n (λ i. bit_of (g (suc i)))

mask_lt : (n : ℕ) (g : Map) → mask n g < 2 ^ n
unfolding mask
mask_lt n g = num_of_lt 2 n (λ i. bit_of (g (suc i))) (λ i. bit_lt (eqb (g (suc i)) 0))

in_mask : (n : ℕ) (g : Map) (ℓ : ℕ) → g 0 ≡ 0 → ℓ ≤ n → in_part (mask n g) ℓ ≡ allocated g ℓ
unfolding in_part mask
in_mask n g zero z l = rw (eq-eqb (g 0) 0 z)
in_mask n g (suc i) z l =
    rw (digit_num 2 n (λ j. bit_of (g (suc j))) (λ j. bit_lt (eqb (g (suc j)) 0)) i l) (bit_is (eqb (g (suc i)) 0))

module _ (n : ℕ) (g r h : Map) (pt : Parts g r h) (k : Heap n h) where
  kg : Heap n g
  kg = first_heap n g r h pt k

  -- what is in the part of that number, and what is not
  mask_picks : (ℓ : ℕ) → (pick (in_part (mask n g) ℓ) (h ℓ) 0 ≡ g ℓ) × (pick (in_part (mask n g) ℓ) 0 (h ℓ) ≡ r ℓ)
  mask_picks ℓ = go (dec_le ℓ n)
    where
      low : Dec (g ℓ ≡ 0) → (pick (not (eqb (g ℓ) 0)) (h ℓ) 0 ≡ g ℓ) × (pick (not (eqb (g ℓ) 0)) 0 (h ℓ) ≡ r ℓ)
      low (yes e) = rw (eq-eqb (g ℓ) 0 e) (sym e, ⊎_elim (λ q. sym q.0 ∙ e ∙ sym q.1) (λ q. sym q.1) (pt ℓ))
      low (no e) = rw (ne_eqb (g ℓ) 0 e) (⊎_elim (λ q. (sym q.0, sym q.1)) (λ q. absurd (e q.0)) (pt ℓ))

      none : (b : Bool) (x : ℕ) → x ≡ 0 → (pick b x 0 ≡ 0) × (pick b 0 x ≡ 0)
      none true x e = (e, refl)
      none false x e = (refl, e)

      go : Dec (ℓ ≤ n) → (pick (in_part (mask n g) ℓ) (h ℓ) 0 ≡ g ℓ) × (pick (in_part (mask n g) ℓ) 0 (h ℓ) ≡ r ℓ)
      go (yes l) = rw (in_mask n g ℓ kg.nil l) (low (ℕ_discrete (g ℓ) 0))
      go (no l) =
          let past : n < ℓ = omega arith in
          let q = none (in_part (mask n g) ℓ) (h ℓ) (k.past ℓ past) in
          (q.0 ∙ sym (kg.past ℓ past), q.1 ∙ sym ((second_heap n g r h pt k).past ℓ past))

  part_mask : part h (mask n g) ≡ g
  unfolding part
  part_mask = fun_ext λ ℓ. (mask_picks ℓ).0

  rest_mask : rest h (mask n g) ≡ r
  unfolding rest
  rest_mask = fun_ext λ ℓ. (mask_picks ℓ).1

  mask_within : (ℓ : ℕ) → ℓ < suc n → (¬ (in_part (mask n g) ℓ ≡ true)) ⊎ Allocated h ℓ
  mask_within ℓ l = rw (in_mask n g ℓ kg.nil (le_of_suc-le-suc l)) (go (ℕ_discrete (g ℓ) 0))
    where
      go : Dec (g ℓ ≡ 0) → (¬ (allocated g ℓ ≡ true)) ⊎ Allocated h ℓ
      go (yes e) = inl (λ t. (is_allocated g ℓ).to t e)
      go (no e) = inr (λ z. ⊎_elim (λ (q : (g ℓ ≡ h ℓ) × (r ℓ ≡ 0)). e (q.0 ∙ z)) (λ q. e q.0) (pt ℓ))

-- ---- added heaps and their numbers

pub heap_of_heap : (n c : ℕ) → Heap n (heap_of n c)
unfolding heap_of
heap_of_heap n c = record { nil = refl; past = past'; low = low' }
  where
    past' : (ℓ : ℕ) → n < ℓ → heap_of n c ℓ ≡ 0
    past' zero l = refl
    past' (suc i) l = rw (le-ltb i n (omega arith))

    pick_le : (b : Bool) (x : ℕ) → x ≤ suc n → pick b x 0 ≤ suc n
    pick_le true x q = q
    pick_le false x q = zero-le

    low' : (ℓ : ℕ) → heap_of n c ℓ ≤ suc n
    low' zero = zero-le
    low' (suc i) = pick_le (ltb i n) (digit (n + 2) c i) (omega (arith, digit_lt (n + 2) c i (omega arith)))

pub heap_number : ℕ → Map → ℕ
heap_number n g = num_of (n + 2) n (λ i. g (suc i))

pub heap_number_lt : (n : ℕ) (g : Map) → Heap n g → heap_number n g < (n + 2) ^ n
unfolding heap_number
heap_number_lt n g k = num_of_lt (n + 2) n (λ i. g (suc i)) (λ i. omega (arith, k.low (suc i)))

pub heap_of_number : (n : ℕ) (g : Map) → Heap n g → heap_of n (heap_number n g) ≡ g
unfolding heap_of heap_number
heap_of_number n g k = fun_ext λ ℓ. go ℓ
  where
    within_range : (i : ℕ) → Dec (i < n) → pick (ltb i n) (digit (n + 2) (num_of (n + 2) n (λ j. g (suc j))) i) 0 ≡ g (suc i)
    within_range i (yes l) = rw (lt-ltb i n l) (digit_num (n + 2) n (λ j. g (suc j)) (λ j. omega (arith, k.low (suc j))) i l)
    within_range i (no l) = rw (le-ltb i n (omega arith)) (sym (k.past (suc i) (omega arith)))

    go : (ℓ : ℕ) → heap_of n (heap_number n g) ℓ ≡ g ℓ
    go zero = sym k.nil
    go (suc i) = within_range i (dec_lt i n)

pub union_heap : (n : ℕ) (g h : Map) → Heap n g → Heap n h → Heap n (union g h)
unfolding union
union_heap n g h kg k =
    record {
      nil = rw (eq-eqb (g 0) 0 kg.nil) k.nil;
      past = λ ℓ l. rw (eq-eqb (g ℓ) 0 (kg.past ℓ l)) (k.past ℓ l);
      low = λ ℓ. go (eqb (g ℓ) 0) (h ℓ) (g ℓ) (k.low ℓ) (kg.low ℓ);
    }
  where
    go : (b : Bool) (x y : ℕ) → x ≤ suc n → y ≤ suc n → pick b x y ≤ suc n
    go true x y p q = p
    go false x y p q = q

pub union_parts : (g h : Map) → ((ℓ : ℕ) → ¬ (Allocated g ℓ × Allocated h ℓ)) → Parts g h (union g h)
unfolding union
union_parts g h d ℓ = go (ℕ_discrete (g ℓ) 0)
  where
    go : Dec (g ℓ ≡ 0) → ((g ℓ ≡ pick (eqb (g ℓ) 0) (h ℓ) (g ℓ)) × (h ℓ ≡ 0)) ⊎ ((g ℓ ≡ 0) × (h ℓ ≡ pick (eqb (g ℓ) 0) (h ℓ) (g ℓ)))
    go (yes e) = inr (e, rw (eq-eqb (g ℓ) 0 e))
    go (no e) = inl (rw (ne_eqb (g ℓ) 0 e), same_of_not (h ℓ) 0 (λ f. d ℓ (e, f)))

pub union_is : (g h u : Map) → Parts g h u → union g h ≡ u
unfolding union
union_is g h u pt = fun_ext λ ℓ. go ℓ (ℕ_discrete (g ℓ) 0)
  where
    go : (ℓ : ℕ) → Dec (g ℓ ≡ 0) → pick (eqb (g ℓ) 0) (h ℓ) (g ℓ) ≡ u ℓ
    go ℓ (yes e) = rw (eq-eqb (g ℓ) 0 e) (⊎_elim (λ q. q.1 ∙ sym e ∙ q.0) (λ q. q.1) (pt ℓ))
    go ℓ (no e) = rw (ne_eqb (g ℓ) 0 e) (⊎_elim (λ q. q.0) (λ q. absurd (e q.0)) (pt ℓ))

-- ---- operators 9 and 10, over two tests and the facts that they say
module _ (π : Profile) (v n : ℕ) (s : Map) (A B : Map → Bool) (P Q : Map → Type 0)
    (is_a : (g : Map) → Heap n g → Is (A g) (P g)) (is_b : (g : Map) → Heap n g → Is (B g) (Q g)) (h : Map) (k : Heap n h) where
  -- part m serves
  Serves : ℕ → Type 0
  Serves m =
      ((ℓ : ℕ) → ℓ < suc n → (¬ (in_part m ℓ ≡ true)) ⊎ Allocated h ℓ) ×
      (Disjoint π v s (part h m) (rest h m) × (P (part h m) × Q (rest h m)))

  is_serves : (m : ℕ) → Is (sep_at π v n s h A B m) (Serves m)
  unfolding sep_at within Serves
  is_serves m =
      is_and (within n m h) (andb (apart π v n s (part h m) (rest h m)) (andb (A (part h m)) (B (rest h m))))
      (is_all (λ ℓ. orb (not (in_part m ℓ)) (allocated h ℓ)) (λ ℓ. (¬ (in_part m ℓ ≡ true)) ⊎ Allocated h ℓ) (suc n)
      (λ ℓ l. is_or (not (in_part m ℓ)) (allocated h ℓ) (is_not (in_part m ℓ) (is_self (in_part m ℓ))) (is_allocated h ℓ)))
      (is_and (apart π v n s (part h m) (rest h m)) (andb (A (part h m)) (B (rest h m)))
      (is_apart π v n s (part h m) (rest h m) (part_heap n h m k) (rest_heap n h m k))
      (is_and (A (part h m)) (B (rest h m)) (is_a (part h m) (part_heap n h m k)) (is_b (rest h m) (rest_heap n h m k))))

  pub is_sep : Is (any (2 ^ n) (sep_at π v n s h A B)) ((g : Map) × (r : Map) × Parts g r h × Disjoint π v s g r × P g × Q r)
  unfolding Serves
  is_sep =
      is_iff (is_any (sep_at π v n s h A B) Serves (2 ^ n) (λ m l. is_serves m))
      (λ q. let m = q.0 in (part h m, rest h m, part_parts h m, q.2.1.0, q.2.1.1.0, q.2.1.1.1))
      (λ q. back q.0 q.1 q.2 q.3 q.4 q.5)
    where
      back : (g r : Map) → Parts g r h → Disjoint π v s g r → P g → Q r → (m : ℕ) × (m < 2 ^ n) × Serves m
      back g r pt d pg qr = (
        mask n g,
        mask_lt n g,
        (
          mask_within n g r h pt k,
          rw (part_mask n g r h pt k, rest_mask n g r h pt k) (d, (pg, qr)),
        ),
      )

  -- heap number c serves
  ServesAdded : ℕ → Type 0
  ServesAdded c = Disjoint π v s (heap_of n c) h × (P (heap_of n c) × Q (union (heap_of n c) h))

  is_serves_added : (c : ℕ) → Is (sept_at π v n s h A B c) (ServesAdded c)
  unfolding sept_at ServesAdded
  is_serves_added c =
      is_and (apart π v n s (heap_of n c) h) (andb (A (heap_of n c)) (B (union (heap_of n c) h)))
      (is_apart π v n s (heap_of n c) h (heap_of_heap n c) k)
      (is_and (A (heap_of n c)) (B (union (heap_of n c) h)) (is_a (heap_of n c) (heap_of_heap n c))
      (is_b (union (heap_of n c) h) (union_heap n (heap_of n c) h (heap_of_heap n c) k)))

  pub is_sept : Is (any ((n + 2) ^ n) (sept_at π v n s h A B)) ((g : Map) × (u : Map) × Heap n g × Parts g h u × Disjoint π v s g h × P g × Q u)
  unfolding ServesAdded
  is_sept =
      is_iff (is_any (sept_at π v n s h A B) ServesAdded ((n + 2) ^ n) (λ c l. is_serves_added c))
      (λ q. let g = heap_of n q.0 in (g, union g h, heap_of_heap n q.0, union_parts g h q.2.0.alone, q.2.0, q.2.1.0, q.2.1.1))
      (λ q. back q.0 q.1 q.2 q.3 q.4 q.5 q.6)
    where
      back : (g u : Map) → Heap n g → Parts g h u → Disjoint π v s g h → P g → Q u → (c : ℕ) × (c < (n + 2) ^ n) × ServesAdded c
      back g u kg pt d pg qu = (
        heap_number n g,
        heap_number_lt n g kg,
        rw (heap_of_number n g kg, union_is g h u pt) (d, (pg, qu)),
      )
