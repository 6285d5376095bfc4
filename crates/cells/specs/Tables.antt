-- Laws of what cells touch: one cell, a table of all, the union of a table's sets, and strong disjointness as a test on sets.
-- Assumes nothing.
use Rattle.std.specs.Prelude.{◌≡◌, refl, Bool, ◌⊎◌, ℕ, zero, suc, ◌+◌, ◌-◌, ◌/◌, ◌%◌, ◌^◌, ◌<◌, eqb}
use Rattle.std.proofs.Common.{sym, ◌∙◌, ap₂, lt_of_le_of_lt, mod-lt, eq-eqb, ne_eqb}
use Rattle.std.proofs.Math.Path.{subst, ap}
use Rattle.std.proofs.Math.Bool.{true, false}
use Rattle.std.proofs.Math.Logic.{inl, inr, ⊎_elim}
use Rattle.std.proofs.Math.Decide.{dec_lt, ℕ_discrete}
use native.Mathlib.Omega.{arith}
use Rattle.std.specs.Int.Bits.{bit_and, bit_or, bit_xor, and_zero_l}
use Rattle.std.proofs.lemmas.Nat.{and_le_r, or_shr}
use Rattle.logic.specs.declared.Profile.{Profile}
use Rattle.logic.specs.Heap.{Map, Heap, Locs, Disjoint}
use Rattle.logic.specs.Tests.{andb, orb, pick, digit, in_part, part, rest, may_meet}
use Rattle.logic.specs.Reflect.{Is}
use Rattle.logic.proofs.Reflect.{false_true, is_iff, is_self, is_eq, is_and, is_or, decided}
use Rattle.logic.proofs.Agree.{locs_low, is_may_meet}
use Rattle.cells.specs.Cells.{most, full, word, cells, Placed, Spread, Barred, Touches, Touched, Tabled, Among, Folded, Clear}
use Rattle.cells.specs.Loops.{Tabling}
use Rattle.cells.specs.Bits.{digit_shr}
use Rattle.cells.specs.Sets.{in_nil, in_and, in_or, in_nothing, in_just, is_meet_nothing}
use Rattle.cells.specs.Packing.{cells_nil, cells_zero, cells_past, cells_or}
use Rattle.cells.specs.Heaps.{part_is, rest_is}

-- ---- one cell

-- a heap's locations are those that its cells touch
pub touches_locs : (h : Map) (ℓ j : ℕ) → Touches ℓ (h ℓ) j → Locs h j
touches_locs h ℓ j t = ⊎_elim (λ q. inl (λ z. q.0 (ap h (sym q.1) ∙ z))) (λ e. inr (ℓ, e)) t

pub locs_touches : (h : Map) (j : ℕ) → Locs h j → (ℓ : ℕ) × Touches ℓ (h ℓ) j
locs_touches h j q = ⊎_elim (λ a. (j, inl (a, refl))) (λ e. (e.0, inr e.1)) q

-- no cell, nothing touched
pub touches_nothing : (ℓ j : ℕ) → ¬ Touches ℓ 0 j
touches_nothing ℓ j t = ⊎_elim (λ q. q.0 refl) (λ (e : 0 ≡ suc j). omega arith) t

in_half_or : (a b i : ℕ) → in_part (bit_or a b / 2) (suc i) ≡ orb (in_part (a / 2) (suc i)) (in_part (b / 2) (suc i))
in_half_or a b i = ap (λ (x : ℕ). in_part x (suc i)) (or_shr a b 1) ∙ in_or (a / 2) (b / 2) (suc i)

pub touched_none : (u ℓ d : ℕ) → d ≡ 0 → Touched u ℓ d 0
touched_none u ℓ d e =
    record {
      small = omega arith;
      member = λ j. record {
        to = λ t. false_true (sym (in_nothing j) ∙ t);
        from = λ q. absurd (touches_nothing ℓ j (subst (λ (x : ℕ). Touches ℓ x j) e q.0));
      };
    }

pub touched_law : (u ℓ d : ℕ) → u < full → ¬ (d ≡ 0) → Touched u ℓ d (bit_and (bit_or (2 ^ ℓ) (2 ^ (d - 1)) / 2) u)
touched_law u ℓ d h nz = record { small = lt_of_le_of_lt (and_le_r (bit_or (2 ^ ℓ) (2 ^ (d - 1)) / 2) u) h; member = member' }
  where
    value : (i : ℕ) → suc i ≡ d - 1 → d ≡ suc (suc i)
    value i e = omega arith

    back : (i : ℕ) → d ≡ suc (suc i) → suc i ≡ d - 1
    back i e = omega arith

    is_touch : (i : ℕ) → Is (orb (eqb (suc i) ℓ) (eqb (suc i) (d - 1))) (Touches ℓ d (suc i))
    is_touch i =
        is_iff (is_or (eqb (suc i) ℓ) (eqb (suc i) (d - 1)) (is_eq (suc i) ℓ) (is_eq (suc i) (d - 1)))
        (⊎_elim (λ e. inl (nz, e)) (λ e. inr (value i e))) (⊎_elim (λ q. inl q.1) (λ e. inr (back i e)))

    member' : (j : ℕ) → Is (in_part (bit_and (bit_or (2 ^ ℓ) (2 ^ (d - 1)) / 2) u) j) (Touches ℓ d j × (in_part u j ≡ true))
    member' zero =
        record {
          to = λ t. false_true (sym (in_nil (bit_and (bit_or (2 ^ ℓ) (2 ^ (d - 1)) / 2) u)) ∙ t);
          from = λ q. false_true (sym (in_nil u) ∙ q.1);
        }
    member' (suc i) =
        subst (λ (b : Bool). Is b (Touches ℓ d (suc i) × (in_part u (suc i) ≡ true)))
        (sym (in_and (bit_or (2 ^ ℓ) (2 ^ (d - 1)) / 2) u (suc i) ∙ ap (λ (b : Bool). andb b (in_part u (suc i))) (in_half_or (2 ^ ℓ) (2 ^ (d - 1)) i ∙ ap₂ orb (in_just ℓ i) (in_just (d - 1) i))))
        (is_and (orb (eqb (suc i) ℓ) (eqb (suc i) (d - 1))) (in_part u (suc i)) (is_touch i) (is_self (in_part u (suc i))))

-- ---- the table of all cells

in_no_cell : (ℓ j : ℕ) → in_part (cells 0 ℓ) j ≡ false
in_no_cell ℓ j = ap (λ (x : ℕ). in_part x j) (cells_zero ℓ) ∙ in_nothing j

-- nothing is unnamed
pub tabled_nothing : (u w : ℕ) → u ≡ 0 → Tabled u w 0
tabled_nothing u w e ℓ j =
    record {
      to = λ t. false_true (sym (in_no_cell ℓ j) ∙ t);
      from = λ q. false_true (sym (in_nothing j) ∙ ap (λ (x : ℕ). in_part x j) (sym e) ∙ q.1);
    }

pub tabling_none : (u w : ℕ) → Tabling u w 1 0
unfolding Tabling
tabling_none u w ℓ j =
    record {
      to = λ t. false_true (sym (in_no_cell ℓ j) ∙ t);
      from = λ q. absurd (touches_nothing ℓ j (subst (λ (x : ℕ). Touches ℓ x j) (nil (lt-one ℓ q.0)) q.1.0));
    }
  where
    lt-one : (ℓ : ℕ) → ℓ < 1 → ℓ ≡ 0
    lt-one ℓ h = omega arith

    nil : ℓ ≡ 0 → cells w ℓ ≡ 0
    nil e = ap (cells w) e ∙ cells_nil w

pub tabling_more : (u w l t e r : ℕ) → Touched u l (cells w l) e → Placed e l r → Tabling u w l t → Tabling u w (l + 1) (bit_or t r)
unfolding Tabling
tabling_more u w l t e r k p g ℓ j =
    subst (λ (b : Bool). Is b ((ℓ < l + 1) × (Touches ℓ (cells w ℓ) j × (in_part u j ≡ true))))
    (sym (ap (λ (x : ℕ). in_part x j) (cells_or t r ℓ ∙ ap (bit_or (cells t ℓ)) (p ℓ)) ∙ in_or (cells t ℓ) (pick (eqb ℓ l) e 0) j))
    (go (ℕ_discrete ℓ l))
  where
    here : ℓ ≡ l → Is (in_part e j) ((ℓ < l + 1) × (Touches ℓ (cells w ℓ) j × (in_part u j ≡ true)))
    here q =
        is_iff (k.member j)
        (λ o. (omega arith, subst (λ (i : ℕ). Touches i (cells w i) j × (in_part u j ≡ true)) (sym q) o))
        (λ o. subst (λ (i : ℕ). Touches i (cells w i) j × (in_part u j ≡ true)) q o.1)

    go : Dec (ℓ ≡ l) → Is (orb (in_part (cells t ℓ) j) (in_part (pick (eqb ℓ l) e 0) j)) ((ℓ < l + 1) × (Touches ℓ (cells w ℓ) j × (in_part u j ≡ true)))
    go (yes q) =
        rw (eq-eqb ℓ l q)
        (is_iff (is_or (in_part (cells t ℓ) j) (in_part e j) (g ℓ j) (here q)) (⊎_elim (λ o. absurd (omega (arith, o.0))) (λ o. o)) inr)
    go (no n) =
        rw (ne_eqb ℓ l n, in_nothing j)
        (is_iff (is_or (in_part (cells t ℓ) j) false (g ℓ j) (is_self false))
        (⊎_elim (λ o. (omega (arith, o.0), o.1)) (λ z. false_true z)) (λ o. inl (less o.0 n, o.1)))
      where
        less : ℓ < l + 1 → ¬ (ℓ ≡ l) → ℓ < l
        less h n = omega arith

pub tabling_done : (u w l t : ℕ) → w < word → most < l → Tabling u w l t → Tabled u w t
unfolding Tabling
tabling_done u w l t h k g ℓ j = is_iff (g ℓ j) (λ q. q.1) (λ q. (inside q (dec_lt ℓ l), q))
  where
    inside : Touches ℓ (cells w ℓ) j × (in_part u j ≡ true) → Dec (ℓ < l) → ℓ < l
    inside q (yes o) = o
    inside q (no o) = absurd (touches_nothing ℓ j (subst (λ (x : ℕ). Touches ℓ x j) (cells_past w ℓ h (omega arith)) q.0))

-- ---- the union of a table's sets, by halves
module _ (j : ℕ) where
  In : ℕ → ℕ → Type 0
  In x i = in_part (cells x (suc i)) j ≡ true

  -- j is in one of the first k sets
  Below : ℕ → ℕ → Type 0
  Below x k = (i : ℕ) × (i < k) × In x i

  -- a table and itself moved down by k sets
  is_down : (a k i : ℕ) → Is (in_part (cells (bit_or a (a / 256 ^ k)) (suc i)) j) (In a i ⊎ In a (k + i))
  unfolding cells In
  is_down a k i =
      subst (λ (b : Bool). Is b (In a i ⊎ In a (k + i)))
      (sym (ap (λ (x : ℕ). in_part x j) (cells_or a (a / 256 ^ k) (suc i)) ∙ in_or (digit 256 a i) (digit 256 (a / 256 ^ k) i) j ∙ ap (λ (x : ℕ). orb (in_part (digit 256 a i) j) (in_part x j)) (digit_shr 256 a k i)))
      (is_or (in_part (digit 256 a i) j) (in_part (digit 256 a (k + i)) j) (is_self (in_part (digit 256 a i) j)) (is_self (in_part (digit 256 a (k + i)) j)))

  unfold_half : (a k : ℕ) → Below (bit_or a (a / 256 ^ k)) k → Below a (k + k)
  unfolding Below In
  unfold_half a k q =
      ⊎_elim (λ e. (q.0, omega (arith, q.1), e)) (λ e. (k + q.0, omega (arith, q.1), e)) ((is_down a k q.0).to q.2)

  fold_half : (a k : ℕ) → Below a (k + k) → Below (bit_or a (a / 256 ^ k)) k
  unfolding Below In
  fold_half a k q = go q.0 q.1 q.2 (dec_lt q.0 k)
    where
      go : (i : ℕ) → i < k + k → In a i → Dec (i < k) → Below (bit_or a (a / 256 ^ k)) k
      go i l e (yes h) = (i, h, (is_down a k i).from (inl e))
      go i l e (no h) =
          let d : k + (i - k) ≡ i = omega arith in
          (i - k, omega arith, (is_down a k (i - k)).from (inr (subst (In a) (sym d) e)))

  is_fold : (x y z : ℕ) → x < word → y ≡ bit_or x (x / 2 ^ 32) → z ≡ bit_or y (y / 2 ^ 16) → Is (in_part (cells (bit_or z (z / 2 ^ 8)) 1) j) (Among x j)
  unfolding Below In
  is_fold x y z h ey ez =
      is_iff (is_self (in_part (cells (bit_or z (z / 2 ^ 8)) 1) j))
      (λ e. among (unfold_half x 4 (subst (λ (q : ℕ). Below q 4) ey (unfold_half y 2 (subst (λ (q : ℕ). Below q 2) ez (unfold_half z 1 (0, omega arith, e)))))))
      (λ e. first (fold_half z 1 (subst (λ (q : ℕ). Below q 2) (sym ez) (fold_half y 2 (subst (λ (q : ℕ). Below q 4) (sym ey) (fold_half x 4 (below e.0 e.1)))))))
    where
      among : Below x most → Among x j
      among q = (suc q.0, q.2)

      first : Below (bit_or z (z / 2 ^ 8)) 1 → In (bit_or z (z / 2 ^ 8)) 0
      first q = subst (In (bit_or z (z / 2 ^ 8))) (zero_of q.0 q.1) q.2
        where
          zero_of : (i : ℕ) → i < 1 → i ≡ 0
          zero_of i l = omega arith

      none : (ℓ : ℕ) → cells x ℓ ≡ 0 → ¬ (in_part (cells x ℓ) j ≡ true)
      none ℓ z e = false_true (sym (in_nothing j) ∙ ap (λ (y : ℕ). in_part y j) (sym z) ∙ e)

      inside : (i : ℕ) → in_part (cells x (suc i)) j ≡ true → Dec (i < most) → i < most
      inside i e (yes l) = l
      inside i e (no l) = absurd (none (suc i) (cells_past x (suc i) h (omega arith)) e)

      below : (ℓ : ℕ) → in_part (cells x ℓ) j ≡ true → Below x most
      below zero e = absurd (none 0 (cells_nil x) e)
      below (suc i) e = (i, inside i e (dec_lt i most), e)

pub fold_law : (x y z : ℕ) → x < word → y ≡ bit_or x (x / 2 ^ 32) → z ≡ bit_or y (y / 2 ^ 16) → Folded x (bit_or z (z / 2 ^ 8) % 256)
unfolding cells digit
fold_law x y z h ey ez = record { small = mod-lt (bit_or z (z / 2 ^ 8)) {m = 256} (omega arith); member = λ j. is_fold j x y z h ey ez }

-- ---- whether no location is in a set of both tables, as code works it out
pub is_clear : (t q a b : ℕ) → Folded t a → Folded q b → Is (eqb (bit_and a b) 0) (Clear t q)
is_clear t q a b f g =
    is_iff (is_meet_nothing most a b f.small)
    (λ c j i o. c j ((f.member j).from i) ((g.member j).from o))
    (λ c j i o. c j ((f.member j).to i) ((g.member j).to o))

pub clear_nothing : (t e : ℕ) → t ≡ 0 → Clear (bit_and t e) (bit_xor t (bit_and t e))
clear_nothing t e z j a b = false_true (sym (in_no_cell a.0 j) ∙ ap (λ (x : ℕ). in_part (cells x a.0) j) (sym (ap (λ (x : ℕ). bit_and x e) z ∙ and_zero_l e)) ∙ a.1)

-- ---- the tables of a part and of the rest
module _ (u w t m e : ℕ) (k : Tabled u w t) (sp : Spread m e) where
  side : (x y ℓ j : ℕ) → ((cells x ℓ ≡ cells t ℓ) × (cells y ℓ ≡ cells w ℓ)) ⊎ ((cells x ℓ ≡ 0) × (cells y ℓ ≡ 0)) → Is (in_part (cells x ℓ) j) (Touches ℓ (cells y ℓ) j × (in_part u j ≡ true))
  side x y ℓ j (inl q) = rw (q.0, q.1) (k ℓ j)
  side x y ℓ j (inr q) =
      rw (q.0, q.1)
      (record { to = λ t. false_true (sym (in_nothing j) ∙ t); from = λ o. absurd (touches_nothing ℓ j o.0) })

  pub part_tabled : Tabled u (bit_and w e) (bit_and t e)
  unfolding part
  part_tabled ℓ j = side (bit_and t e) (bit_and w e) ℓ j (go (in_part m ℓ) (ap (λ (h : Map). h ℓ) (part_is m e sp t)) (ap (λ (h : Map). h ℓ) (part_is m e sp w)))
    where
      go : (b : Bool) → cells (bit_and t e) ℓ ≡ pick b (cells t ℓ) 0 → cells (bit_and w e) ℓ ≡ pick b (cells w ℓ) 0 → ((cells (bit_and t e) ℓ ≡ cells t ℓ) × (cells (bit_and w e) ℓ ≡ cells w ℓ)) ⊎ ((cells (bit_and t e) ℓ ≡ 0) × (cells (bit_and w e) ℓ ≡ 0))
      go true p q = inl (p, q)
      go false p q = inr (p, q)

  pub rest_tabled : Tabled u (bit_xor w (bit_and w e)) (bit_xor t (bit_and t e))
  unfolding rest
  rest_tabled ℓ j = side (bit_xor t (bit_and t e)) (bit_xor w (bit_and w e)) ℓ j (go (in_part m ℓ) (ap (λ (h : Map). h ℓ) (rest_is m e sp t)) (ap (λ (h : Map). h ℓ) (rest_is m e sp w)))
    where
      go : (b : Bool) → cells (bit_xor t (bit_and t e)) ℓ ≡ pick b 0 (cells t ℓ) → cells (bit_xor w (bit_and w e)) ℓ ≡ pick b 0 (cells w ℓ) → ((cells (bit_xor t (bit_and t e)) ℓ ≡ cells t ℓ) × (cells (bit_xor w (bit_and w e)) ℓ ≡ cells w ℓ)) ⊎ ((cells (bit_xor t (bit_and t e)) ℓ ≡ 0) × (cells (bit_xor w (bit_and w e)) ℓ ≡ 0))
      go true p q = inr (p, q)
      go false p q = inl (p, q)

-- ---- disjointness as the profile asks: the two heaps' locations have none of the barred ones in common
module _ {π : Profile} (v n u : ℕ) (s : Map) (un : Barred π v n s u) where
  abbrev pub Meets : Map → Map → Type 0
  Meets g h = (j : ℕ) × Locs g j × Locs h j × (in_part u j ≡ true)

  pub disjoint_meets : (g h : Map) → Disjoint π v s g h → ¬ Meets g h
  disjoint_meets g h d q = ((un.member q.0).to q.3).1 (d.meet q.0 q.1 q.2)

  pub meets_disjoint : (g h : Map) → Heap n g → ((ℓ : ℕ) → (g ℓ ≡ 0) ⊎ (h ℓ ≡ 0)) → ¬ Meets g h → Disjoint π v s g h
  meets_disjoint g h k free f =
      record {
        alone = λ ℓ both. ⊎_elim (λ e. both.0 e) (λ e. both.1 e) (free ℓ);
        meet = λ ℓ a b. ⊎_elim (λ q. q) (λ q. absurd (f (ℓ, a, b, (un.member ℓ).from (locs_low n g ℓ k a, q)))) (decided (may_meet π v s ℓ) (is_may_meet π v s ℓ));
      }

  among_locs : (w t j : ℕ) → Tabled u w t → Among t j → Locs (cells w) j × (in_part u j ≡ true)
  among_locs w t j k a = let q = (k a.0 j).to a.1 in (touches_locs (cells w) a.0 j q.0, q.1)

  locs_among : (w t j : ℕ) → Tabled u w t → Locs (cells w) j → in_part u j ≡ true → Among t j
  locs_among w t j k a o = let q = locs_touches (cells w) j a in (q.0, (k q.0 j).from (q.1, o))

  -- as code works it out, for two parts of a heap
  pub is_disjoint : (r : Bool) (g h t q : ℕ) → Heap n (cells g) → ((ℓ : ℕ) → (cells g ℓ ≡ 0) ⊎ (cells h ℓ ≡ 0)) → Tabled u g t → Tabled u h q → Is r (Clear t q) → Is r (Disjoint π v s (cells g) (cells h))
  is_disjoint r g h t q kg free tg th i =
      is_iff i
      (λ c. meets_disjoint (cells g) (cells h) kg free (λ m. c m.0 (locs_among g t m.0 tg m.1 m.3) (locs_among h q m.0 th m.2 m.3)))
      (λ d j a b. let p = among_locs g t j tg a in disjoint_meets (cells g) (cells h) d (j, p.0, (among_locs h q j th b).0, p.1))
