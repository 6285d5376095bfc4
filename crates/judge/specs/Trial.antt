-- The trial of parts: subsets of the allocated set are tried upward, no part that could serve is passed over, and what is
-- tested of each part is what the computed truth tests. Assumes nothing.
use Rattle.std.specs.Prelude.{◌≡◌, refl, Bool, true, false, not, ◌⊎◌, ℕ, suc, ◌+◌, ◌-◌, ◌^◌, ◌<◌, ◌≤◌, Option, Some, None, is_some}
use Rattle.std.proofs.Common.{sym, subst, ◌∙◌, ap, not-suc-le-zero, lt_of_le_of_lt, lt_of_lt_of_le, arith}
use Rattle.std.proofs.Math.Logic.{inl, inr, ⊎_elim}
use Rattle.std.proofs.Math.Nat.{pow-le-pow_right}
use Rattle.std.proofs.Math.Decide.{dec_lt, dec_le, ℕ_discrete}
use Rattle.std.specs.Int.Bits.{bit_and, bit_xor, and_zero_l}
use Rattle.std.proofs.lemmas.Nat.{and_le_r}
use Rattle.logic.specs.declared.Profile.{Profile}
use Rattle.logic.specs.Heap.{Map, Heap}
use Rattle.logic.specs.Tests.{andb, orb, any, in_part, allocated, within, apart, sep_at}
use Rattle.logic.specs.Reflect.{Is}
use Rattle.logic.proofs.Reflect.{is_same, false_true, is_self, is_all, is_any}
use Rattle.logic.proofs.Agree.{is_apart, first_heap, second_heap}
use Rattle.cells.specs.Cells.{most, full, cells, Sub, Spread, Taken, Barred, Tabled, Clear}
use Rattle.cells.specs.Sets.{in_and, in_past, same_set, set_small}
use Rattle.cells.specs.Subsets.{and_sub}
use Rattle.pairs.specs.Steps.{after, sub_le, after_least}
use Rattle.cells.specs.Heaps.{part_is, rest_is, part_rest}
use Rattle.cells.specs.Tables.{part_tabled, rest_tabled, is_disjoint}
use Rattle.judge.specs.Setting.{Chosen, Trying}
use Rattle.judge.specs.Setting.Chosen.{lowest, nothing}

-- a choice of a part says whether there is one
pub chosen_any : (F : ℕ → Bool) (n : ℕ) (r : Option ℕ) → Chosen F (2 ^ n) r → is_some r ≡ any (2 ^ n) F
chosen_any F n r q =
    is_same (is_some r) (any (2 ^ n) F) (go q) (is_any F (λ i. F i ≡ true) (2 ^ n) (λ i _. is_self (F i)))
  where
    go : Chosen F (2 ^ n) r → Is (is_some r) ((i : ℕ) × (i < 2 ^ n) × (F i ≡ true))
    go (lowest m e l t f) = record { to = λ _. (m, l, t); from = λ _. ap is_some e }
    go (nothing e f) =
        record { to = λ t. false_true (sym (ap is_some e) ∙ t); from = λ q. false_true (sym (f q.0 q.1) ∙ q.2) }

pub trying_first : (F : ℕ → Bool) (a : ℕ) → Trying F a 0
trying_first F a = record { sub = and_zero_l a; failed = λ i l. absurd (not-suc-le-zero l) }

module _ (n w a : ℕ) (few : n ≤ most) (kw : Heap n (cells w)) (t : Taken w a) where
  pub taken_small : a < 2 ^ n
  taken_small = set_small n most a t.small (λ ℓ l. t.member ℓ ∙ rw (kw.past ℓ l))

  sub_in : (m ℓ : ℕ) → Sub m a → in_part m ℓ ≡ true → allocated (cells w) ℓ ≡ true
  sub_in m ℓ s e = go (in_part a ℓ) (t.member ℓ) (sym (in_and m a ℓ) ∙ ap (λ (x : ℕ). in_part x ℓ) s ∙ e)
    where
      go : (b : Bool) → b ≡ allocated (cells w) ℓ → andb (in_part m ℓ) b ≡ true → allocated (cells w) ℓ ≡ true
      go true p q = sym p
      go false p q = false_true (sym (andb_false (in_part m ℓ)) ∙ q)
        where
          andb_false : (b : Bool) → andb b false ≡ false
          andb_false true = refl
          andb_false false = refl

  is_within : (m : ℕ) → Is (within n m (cells w)) ((ℓ : ℕ) → ℓ < suc n → orb (not (in_part m ℓ)) (allocated (cells w) ℓ) ≡ true)
  unfolding within
  is_within m =
      is_all (λ ℓ. orb (not (in_part m ℓ)) (allocated (cells w) ℓ)) (λ ℓ. orb (not (in_part m ℓ)) (allocated (cells w) ℓ) ≡ true) (suc n)
      (λ ℓ _. is_self (orb (not (in_part m ℓ)) (allocated (cells w) ℓ)))

  -- the subsets of the allocated set are the parts whose every location is allocated
  pub sub_within : (m : ℕ) → Sub m a → within n m (cells w) ≡ true
  sub_within m s = (is_within m).from (λ ℓ _. go ℓ (in_part m ℓ) refl)
    where
      go : (ℓ : ℕ) (b : Bool) → in_part m ℓ ≡ b → orb (not b) (allocated (cells w) ℓ) ≡ true
      go ℓ true e = sub_in m ℓ s e
      go ℓ false e = refl

  within_sub : (m : ℕ) → m < 2 ^ n → within n m (cells w) ≡ true → Sub m a
  within_sub m l e =
      let lm : m < full = lt_of_lt_of_le l (pow-le-pow_right {n = 2} (omega arith) few) in
      same_set most (bit_and m a) m (lt_of_le_of_lt (and_le_r m a) t.small) lm (λ ℓ. in_and m a ℓ ∙ go ℓ (in_part m ℓ) refl (dec_le ℓ n))
    where
      go : (ℓ : ℕ) (b : Bool) → in_part m ℓ ≡ b → Dec (ℓ ≤ n) → andb b (in_part a ℓ) ≡ b
      go ℓ false d k = refl
      go ℓ true d (yes k) = t.member ℓ ∙ sym (ap (λ (c : Bool). orb (not c) (allocated (cells w) ℓ)) d) ∙ (is_within m).to e ℓ (omega arith)
      go ℓ true d (no k) = false_true (sym (in_past n m ℓ l (omega arith)) ∙ d)

  module _ (F : ℕ → Bool) (out : (i : ℕ) → within n i (cells w) ≡ false → F i ≡ false) where
    -- no subset in reach, no part that serves
    passed : (i : ℕ) → i < 2 ^ n → ¬ Sub i a → F i ≡ false
    passed i l f = go (within n i (cells w)) refl
      where
        go : (b : Bool) → within n i (cells w) ≡ b → F i ≡ false
        go true e = absurd (f (within_sub i l e))
        go false e = out i e

    -- below m, at m, or above it
    up_to : (P : ℕ → Type 0) (m : ℕ) → ((i : ℕ) → i < m → P i) → P m → ((i : ℕ) → m < i → P i) → (i : ℕ) → P i
    up_to P m lo at hi i = go (dec_lt i m) (ℕ_discrete i m)
      where
        above : ¬ (i < m) → ¬ (i ≡ m) → m < i
        above p q = omega arith

        go : Dec (i < m) → Dec (i ≡ m) → P i
        go (yes l) d = lo i l
        go (no l) (yes e) = subst P (sym e) at
        go (no l) (no d) = hi i (above l d)

    module _ (m : ℕ) (q : Trying F a m) where
      pub trying_next : F m ≡ false → Trying F a (after a m)
      trying_next fm =
          record {
            sub = and_sub most (m + (full - a)) a t.small;
            failed = up_to (λ i. i < after a m → F i ≡ false) m (λ i l _. q.failed i l) (λ _. fm)
                (λ i l k. passed i (lt_of_lt_of_le k (below (and_le_r (m + (full - a)) a))) (λ s. absurd (omega (arith, after_least a m t.small q.sub i s l))));
          }
        where
          below : {x : ℕ} → x ≤ a → x ≤ 2 ^ n
          below l = omega (arith, taken_small)

      pub trying_none : m ≡ a → F m ≡ false → Chosen F (2 ^ n) None
      trying_none e fm =
          nothing refl
          (up_to (λ i. i < 2 ^ n → F i ≡ false) m (λ i l _. q.failed i l) (λ _. fm) (λ i l k. passed i k (λ s. absurd (omega (arith, sub_le i a s)))))

      pub trying_found : F m ≡ true → Chosen F (2 ^ n) (Some m)
      trying_found fm = lowest m refl (lt_of_le_of_lt (sub_le m a q.sub) taken_small) fm q.failed

-- ---- what is tested of part m, whose mask is e; t is the table, and r the test of strong disjointness
module _ {π : Profile} (v n u : ℕ) (s : Map) (un : Barred π v n s u) (w t m e : ℕ) (kw : Heap n (cells w)) (k : Tabled u w t) (sp : Spread m e) where
  pub part_is_heap : Heap n (cells (bit_and w e))
  part_is_heap = first_heap n (cells (bit_and w e)) (cells (bit_xor w (bit_and w e))) (cells w) (part_rest m e sp w) kw

  pub rest_is_heap : Heap n (cells (bit_xor w (bit_and w e)))
  rest_is_heap = second_heap n (cells (bit_and w e)) (cells (bit_xor w (bit_and w e))) (cells w) (part_rest m e sp w) kw

  sep_is : (A B : Map → Bool) (r : Bool) → within n m (cells w) ≡ true → Is r (Clear (bit_and t e) (bit_xor t (bit_and t e))) → sep_at π v n s (cells w) A B m ≡ andb r (andb (A (cells (bit_and w e))) (B (cells (bit_xor w (bit_and w e)))))
  unfolding sep_at
  sep_is A B r wi i = rw (wi, ← (part_is m e sp w), ← (rest_is m e sp w), ← apart_is)
    where
      one_side : (ℓ : ℕ) → (cells (bit_and w e) ℓ ≡ 0) ⊎ (cells (bit_xor w (bit_and w e)) ℓ ≡ 0)
      one_side ℓ = ⊎_elim (λ q. inr q.1) (λ q. inl q.0) (part_rest m e sp w ℓ)

      apart_is : r ≡ apart π v n s (cells (bit_and w e)) (cells (bit_xor w (bit_and w e)))
      apart_is =
          is_same r (apart π v n s (cells (bit_and w e)) (cells (bit_xor w (bit_and w e))))
          (is_disjoint v n u s un r (bit_and w e) (bit_xor w (bit_and w e)) (bit_and t e) (bit_xor t (bit_and t e)) part_is_heap one_side (part_tabled u w t m e k sp) (rest_tabled u w t m e k sp) i)
          (is_apart π v n s (cells (bit_and w e)) (cells (bit_xor w (bit_and w e))) part_is_heap rest_is_heap)

  module _ (A B : Map → Bool) (r : Bool) (wi : within n m (cells w) ≡ true) (i : Is r (Clear (bit_and t e) (bit_xor t (bit_and t e)))) where
    pub serves_not_apart : r ≡ false → false ≡ sep_at π v n s (cells w) A B m
    serves_not_apart p = sym (sep_is A B r wi i ∙ rw p)

    pub serves_both : (o : Bool) → r ≡ true → o ≡ andb (A (cells (bit_and w e))) (B (cells (bit_xor w (bit_and w e)))) → o ≡ sep_at π v n s (cells w) A B m
    serves_both o p q = q ∙ sym (sep_is A B r wi i ∙ rw p)

-- a part that is not within the heap does not serve
pub sep_out : (π : Profile) (v n : ℕ) (s h : Map) (A B : Map → Bool) (m : ℕ) → within n m h ≡ false → sep_at π v n s h A B m ≡ false
unfolding sep_at
sep_out π v n s h A B m e = rw e
