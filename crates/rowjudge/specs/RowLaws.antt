-- What the tests of the rows say, on packed heaps and sets. Assumes nothing.
use Rattle.std.specs.Prelude.{◌≡◌, Bool, List, [], ◌⊎◌, eqb, ltb, get_or}
use Rattle.std.proofs.Math.Path.{refl, ap, fun_ext}
use Rattle.std.proofs.Common.{sym, subst, ◌∙◌, inl, inr, ⊎_elim, lt_of_lt_of_le, lt_of_le_of_lt, lt-ltb, ne_eqb}
use Rattle.std.proofs.Math.Bool.{true, false}
use Prim.Native.Nat.{ℕ, zero, suc, ◌+◌, ◌-◌, ◌^◌, ◌<◌, ◌≤◌}
use Rattle.std.proofs.Math.Nat.{pow-le-pow_right, zero-add}
use Rattle.std.proofs.Math.Decide.{dec_lt}
use native.Mathlib.Omega.{arith}
use Rattle.std.specs.Int.Bits.{bit_and, bit_or}
use Rattle.std.proofs.lemmas.Nat.{or_lt, and_le_l}
use Rattle.logic.specs.declared.Profile.{Profile}
use Rattle.logic.specs.Heap.{Map, Heap, Locs, MayMeet, Empty}
use Rattle.logic.specs.Holds.{Points, Segment, Holds}
use Rattle.logic.specs.Table.{atom_of}
use Rattle.logic.specs.Reflect.{Is}
use Rattle.logic.proofs.Reflect.{is_iff, is_eq, is_and, false_true, decided}
use Rattle.logic.specs.Tests.{andb, orb, pick, in_part, part, may_meet}
use Rattle.logic.proofs.Agree.{is_may_meet, locs_low}
use Rattle.logic.specs.Model.{heap_in, digit_of}
use Rattle.logic.specs.Book.{most}
use Rattle.cells.specs.Cells.{full, word, cells, Spread, Barred, Met}
use Rattle.cells.specs.Sets.{in_past, in_or, same_set, is_meet_nothing}
use Rattle.cells.specs.Packing.{same_cells}
use Rattle.cells.specs.Heaps.{part_is}
use Rattle.packing.specs.Packing.{packed_from}
use Rattle.packing.specs.PackingLaws.{packed_heap, packed_lt}
use Rattle.rows.specs.Assignment.{Set, Member, on}
use Rattle.rows.specs.Meaning.{Splits, WithValues, Apart, Same}
use Rattle.rows.proofs.OnSet.{on_member, with_values, same_on}
use Rattle.arrays.specs.Unpacked.{values_of, values_in}

-- a set of few locations is a set of the most that fit in one number
pub set_small : (n m : ℕ) → n ≤ most → m < 2 ^ n → m < full
set_small n m l h = lt_of_lt_of_le h (pow-le-pow_right {n = 2} (omega arith) {i = n} {j = 8} (omega arith))

-- an array's row, packed, on a set
module _ (arrays : List (List ℕ)) (i n m : ℕ) (few : n ≤ most) (low : (ℓ : ℕ) → values_in arrays i ℓ ≤ n) (small : m < 2 ^ n) where
  abbrev row : List ℕ
  row = get_or arrays i []

  digit_of_is : (x : ℕ) → x ≤ n → digit_of x ≡ suc x
  digit_of_is x l = rw (ne_eqb x 255 (λ e. omega arith))

  row_at : (ℓ : ℕ) → pick (in_part m ℓ) (heap_in 0 n row ℓ) 0 ≡ on (values_in arrays i) (in_part m) ℓ
  unfolding on heap_in values_of in_part
  row_at zero = refl
  row_at (suc j) = go (in_part m (suc j)) refl (dec_lt j n)
    where
      go : (b : Bool) → in_part m (suc j) ≡ b → Dec (j < n) → pick b (pick (ltb j n) (digit_of (get_or row (0 + j) 0)) 0) 0 ≡ pick b (suc (get_or row j 0)) 0
      go false e d = refl
      go true e (yes l) = rw (lt-ltb j n l, zero-add j) (digit_of_is (get_or row j 0) (low (suc j)))
      go true e (no l) = false_true (sym (in_past n m (suc j) small (omega arith)) ∙ e)

  pub row_small : (k : ℕ) → get_or row k 0 < 256
  unfolding values_of
  row_small k = let l = low (suc k) in omega arith

  pub row_on : (w e : ℕ) → ((k : ℕ) → get_or row k 0 < 256) → w ≡ packed_from true row 0 n 0 → Spread m e → cells (bit_and w e) ≡ on (values_in arrays i) (in_part m)
  unfolding part
  row_on w e b d sp = part_is m e sp w ∙ fun_ext λ ℓ. ap (λ (h : Map). pick (in_part m ℓ) (h ℓ) 0) (packed_heap row b 0 n w d) ∙ row_at ℓ

  pub row_word : (w e : ℕ) → w ≡ packed_from true row 0 n 0 → bit_and w e < word
  row_word w e d =
      let l : w < 256 ^ (n - 0) = subst (λ (x : ℕ). x < 256 ^ (n - 0)) (sym d) (packed_lt true row row_small 0 n 0) in
      lt_of_le_of_lt (and_le_l w e) (lt_of_lt_of_le l (pow-le-pow_right {n = 256} (omega arith) {i = n - 0} {j = 8} (omega arith)))

either : (a b : Bool) → orb a b ≡ true → (a ≡ true) ⊎ (b ≡ true)
either true b e = inl refl
either false b e = inr e

-- SPLIT, as code works it out
pub is_splits : (m x y : ℕ) → m < 256 → x < 256 → y < 256 → Is (andb (eqb (bit_and x y) 0) (eqb (bit_or x y) m)) (Splits (in_part m) (in_part x) (in_part y))
is_splits m x y lm lx ly =
    is_iff (is_and (eqb (bit_and x y) 0) (eqb (bit_or x y) m) (is_meet_nothing 8 x y lx) (is_eq (bit_or x y) m))
    (λ q. record { alone = λ ℓ z. q.0 ℓ z.0 z.1; make = λ ℓ. (λ z. either (in_part x ℓ) (in_part y ℓ) (sym (in_or x y ℓ) ∙ ap (λ (k : ℕ). in_part k ℓ) q.1 ∙ z), back q ℓ) })
    (λ q. (λ ℓ a b. q.alone ℓ (a, b), same_set 8 (bit_or x y) m (or_lt 8 x y lx ly) lm (λ ℓ. in_or x y ℓ ∙ members q ℓ (in_part x ℓ) refl (in_part y ℓ) refl (in_part m ℓ) refl)))
  where
    back : ((ℓ : ℕ) → in_part x ℓ ≡ true → ¬ (in_part y ℓ ≡ true)) × (bit_or x y ≡ m) → (ℓ : ℕ) → Member (in_part x) ℓ ⊎ Member (in_part y) ℓ → Member (in_part m) ℓ
    back q ℓ z = ap (λ (k : ℕ). in_part k ℓ) (sym q.1) ∙ in_or x y ℓ ∙ go (in_part x ℓ) (in_part y ℓ) z
      where
        go : (a b : Bool) → (a ≡ true) ⊎ (b ≡ true) → orb a b ≡ true
        go true b w = refl
        go false b w = ⊎_elim (λ e. false_true e) (λ e. e) w

    members : Splits (in_part m) (in_part x) (in_part y) → (ℓ : ℕ) (a : Bool) → in_part x ℓ ≡ a → (b : Bool) → in_part y ℓ ≡ b → (c : Bool) → in_part m ℓ ≡ c → orb a b ≡ c
    members q ℓ true d b e c f = sym ((q.make ℓ).1 (inl d)) ∙ f
    members q ℓ false d true e c f = sym ((q.make ℓ).1 (inr e)) ∙ f
    members q ℓ false d false e false f = refl
    members q ℓ false d false e true f = ⊎_elim (λ z. false_true (sym d ∙ z)) (λ z. false_true (sym e ∙ z)) ((q.make ℓ).0 f)

-- APART, over two heaps and what each of them has of the barred locations
module _ (π : Profile) (v n : ℕ) (s A : Map) (S1 S2 : Set) (u w1 w2 x y : ℕ) (k1 : Heap n (on A S1)) (un : Barred π v n s u)
    (e1 : cells w1 ≡ on A S1) (e2 : cells w2 ≡ on A S2) (m1 : Met u w1 x) (m2 : Met u w2 y) where
  pub is_apart_met : Is (eqb (bit_and x y) 0) (Apart π v s A S1 S2)
  is_apart_met =
      is_iff (is_meet_nothing 8 x y m1.small)
      (λ f ℓ a b. ⊎_elim (λ z. z) (λ z. absurd (meets f ℓ a b z)) (decided (may_meet π v s ℓ) (is_may_meet π v s ℓ)))
      (λ q ℓ a b. ((un.member ℓ).to ((m1.member ℓ).to a).1).1
      (q ℓ ((with_values A S1 ℓ).0 (subst (λ (h : Map). Locs h ℓ) e1 ((m1.member ℓ).to a).0)) ((with_values A S2 ℓ).0 (subst (λ (h : Map). Locs h ℓ) e2 ((m2.member ℓ).to b).0))))
    where
      meets : ((ℓ : ℕ) → in_part x ℓ ≡ true → ¬ (in_part y ℓ ≡ true)) → (ℓ : ℕ) → WithValues A S1 ℓ → WithValues A S2 ℓ → ¬ ¬ MayMeet π v s ℓ
      meets f ℓ a b z =
          let l1 = (with_values A S1 ℓ).1 a in
          let l2 = (with_values A S2 ℓ).1 b in
          let iu = (un.member ℓ).from (locs_low n (on A S1) ℓ k1 l1, z) in
          f ℓ ((m1.member ℓ).from (subst (λ (h : Map). Locs h ℓ) (sym e1) l1, iu)) ((m2.member ℓ).from (subst (λ (h : Map). Locs h ℓ) (sym e2) l2, iu))

-- SAME, as code works it out
pub is_same_heap : (A B : Map) (S : Set) (w1 w2 : ℕ) → w1 < word → w2 < word → cells w1 ≡ on A S → cells w2 ≡ on B S → Is (eqb w1 w2) (Same A B S)
is_same_heap A B S w1 w2 l1 l2 e1 e2 =
    is_iff (is_eq w1 w2)
    (λ e ℓ m. let h : suc (A ℓ) ≡ suc (B ℓ) = sym (on_member A S ℓ m) ∙ ap (λ (f : Map). f ℓ) (sym e1) ∙ ap (λ (k : ℕ). cells k ℓ) e ∙ ap (λ (f : Map). f ℓ) e2 ∙ on_member B S ℓ m in omega arith)
    (λ q. same_cells w1 w2 l1 l2 (λ ℓ. ap (λ (f : Map). f ℓ) (e1 ∙ same_on A B S q ∙ sym e2)))

-- ---- atoms

module _ (π : Profile) (v n op x y : ℕ) (s h : Map) where
  pub is_same_atom : (a b w : ℕ) (r : Bool) → cells w ≡ h → op ≡ 1 → a ≡ s x → b ≡ s y → Is r ((a ≡ b) × Empty (cells w)) → Is r (Holds π v n (atom_of op x y) s h)
  unfolding Holds atom_of
  is_same_atom a b w r m e d f i = rw (e, ← d, ← f, ← m) i

  pub is_diff_atom : (a b w : ℕ) (r : Bool) → cells w ≡ h → op ≡ 2 → a ≡ s x → b ≡ s y → Is r ((¬ (a ≡ b)) × Empty (cells w)) → Is r (Holds π v n (atom_of op x y) s h)
  unfolding Holds atom_of
  is_diff_atom a b w r m e d f i = rw (e, ← d, ← f, ← m) i

  pub is_pts_atom : (a b w : ℕ) (r : Bool) → cells w ≡ h → op ≡ 3 → a ≡ s x → b ≡ s y → Is r (Points a b (cells w)) → Is r (Holds π v n (atom_of op x y) s h)
  unfolding Holds atom_of
  is_pts_atom a b w r m e d f i = rw (e, ← d, ← f, ← m) i

  pub is_ls_atom : (a b w : ℕ) (r : Bool) → cells w ≡ h → op ≡ 4 → a ≡ s x → b ≡ s y → Is r (Segment a b (cells w)) → Is r (Holds π v n (atom_of op x y) s h)
  unfolding Holds atom_of
  is_ls_atom a b w r m e d f i = rw (e, ← d, ← f, ← m) i

-- SPLIT over the bytes of three sets
pub is_splits_at : (q : List ℕ) (b k s t u m x y : ℕ) (r : Bool) → b ≡ k → (m ≡ get_or q (b + s) 0) × (m < 256) → (x ≡ get_or q (b + t) 0) × (x < 256) → (y ≡ get_or q (b + u) 0) × (y < 256)
    → r ≡ andb (eqb (bit_and x y) 0) (eqb (bit_or x y) m) → Is r (Splits (in_part (get_or q (k + s) 0)) (in_part (get_or q (k + t) 0)) (in_part (get_or q (k + u) 0)))
is_splits_at q b k s t u m x y r e d f g c = rw (c, ← e, ← d.0, ← f.0, ← g.0) (is_splits m x y d.1 f.1 g.1)
