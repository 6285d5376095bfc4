-- Each model that fits comes from a satisfying assignment: the truth of an encodable formula gives its condition, for some
-- choice of the new arrays and sets. New symbols never stand under a NOT, so the choice passes through. Assumes nothing.
use Rattle.std.specs.Prelude.{◌≡◌, ℕ, ◌+◌, ◌<◌}
use Rattle.std.proofs.Math.Path.{sym}
use Rattle.std.proofs.Common.{◌∙◌, inr, arith}
use Rattle.std.proofs.Math.Logic.{inl, ⊎_elim}
use Rattle.logic.specs.declared.Profile.{Profile}
use Rattle.logic.specs.Heap.{Map, Heap, Disjoint, Parts}
use Rattle.logic.specs.Tests.{allocated}
use Rattle.logic.proofs.Agree.{first_heap, second_heap}
use Rattle.logic.specs.Formula.{Form}
use Rattle.logic.specs.Formula.Form.{same, diff, pts, ls, conj, disj, but, neg, sep, sept}
use Rattle.logic.specs.Holds.{Holds}
use Rattle.rows.specs.Assignment.{Set, Assignment, ValuesInRange, on}
use Rattle.rows.specs.Table.{arrays_in, sets_in, Flat, Encodable}
use Rattle.rows.specs.Condition.{Condition}
use Rattle.rows.proofs.OnSet.{on_heap}
use Rattle.rows.proofs.PartSets.{domain_on, domain_of, not_allocated, parts_splits, first_part, second_part, parts_apart, values, values_low, values_alone, added_part, whole, added_same, added_apart, whole_heap}
use Rattle.rows.specs.Symbols.{Agree}
use Rattle.rows.proofs.Symbols.{agree_less, agree_refl, agree_trans, condition_kept, with_set, with_array, new_set, new_array}
use Rattle.rows.proofs.Sound.{flat}

module _ (π : Profile) (v n : ℕ) where
  -- an assignment that agrees with ν so far and meets the condition
  pub record Found (F : Form) (ν : Assignment) (A S i j : ℕ) : Type 0 where
    pub is : Assignment
    pub within_range : ValuesInRange v n is
    pub agrees : Agree i j ν is
    pub holds : Condition π v n is F A S i j

  -- what is to be shown of a formula
  Complete : Form → Type 0
  Complete F = (ν : Assignment) (A S i j : ℕ) → ValuesInRange v n ν → A < i → S < j → Holds π v n F ν.stack (on (ν.array A) (ν.set S)) → Found F ν A S i j

  -- two conditions, of which the second one's symbols are new after the first one's
  record FoundBoth (a b : Form) (ν : Assignment) (A S T i j : ℕ) : Type 0 where
    is : Assignment
    within_range : ValuesInRange v n is
    agrees : Agree i j ν is
    first : Condition π v n is a A S i j
    second : Condition π v n is b A T (i + arrays_in a) (j + sets_in a)

  truth_kept : (F : Form) (ν μ : Assignment) (A S i j : ℕ) → A < i → S < j → Agree i j ν μ → Holds π v n F ν.stack (on (ν.array A) (ν.set S)) → Holds π v n F μ.stack (on (μ.array A) (μ.set S))
  truth_kept F ν μ A S i j a b g q = rw (← g.stack, ← (g.array A a), ← (g.set S b)) q

  both : (a b : Form) → Complete a → Complete b → (ν : Assignment) (A S T i j : ℕ) → ValuesInRange v n ν → A < i → S < j → T < j
      → Holds π v n a ν.stack (on (ν.array A) (ν.set S)) → Holds π v n b ν.stack (on (ν.array A) (ν.set T)) → FoundBoth a b ν A S T i j
  unfolding Complete
  both a b ca cb ν A S T i j k l_a l_s l_t ha hb =
      let f = ca ν A S i j k l_a l_s ha in
      let g = cb f.is A T (i + arrays_in a) (j + sets_in a) f.within_range (omega arith) (omega arith) (truth_kept b ν f.is A T i j l_a l_t f.agrees hb) in
      record {
        is = g.is;
        within_range = g.within_range;
        agrees = agree_trans f.agrees (agree_less g.agrees i j (omega arith) (omega arith));
        first = condition_kept π v n a f.is g.is A S i j l_a l_s g.agrees f.holds;
        second = g.holds;
      }

  complete_conj : (a b : Form) → Complete a → Complete b → Complete (conj a b)
  unfolding Complete Condition Holds
  complete_conj a b ca cb ν A S i j k l_a l_s q =
      let f = both a b ca cb ν A S S i j k l_a l_s l_s q.0 q.1 in
      record { is = f.is; within_range = f.within_range; agrees = f.agrees; holds = (f.first, f.second) }

  complete_disj : (a b : Form) → Complete a → Complete b → Complete (disj a b)
  unfolding Complete Condition Holds
  complete_disj a b ca cb ν A S i j k l_a l_s q = ⊎_elim left right q
    where
      left : Holds π v n a ν.stack (on (ν.array A) (ν.set S)) → Found (disj a b) ν A S i j
      left y = let f = ca ν A S i j k l_a l_s y in record { is = f.is; within_range = f.within_range; agrees = f.agrees; holds = inl f.holds }

      right : Holds π v n b ν.stack (on (ν.array A) (ν.set S)) → Found (disj a b) ν A S i j
      right y =
          let f = cb ν A S (i + arrays_in a) (j + sets_in a) k (omega arith) (omega arith) y in
          record { is = f.is; within_range = f.within_range; agrees = agree_less f.agrees i j (omega arith) (omega arith); holds = inr f.holds }

  complete_but : (a b : Form) → Complete a → Flat b → Complete (but a b)
  unfolding Complete Condition Holds
  complete_but a b ca c ν A S i j k l_a l_s q =
      let f = ca ν A S i j k l_a l_s q.0 in
      record {
        is = f.is;
        within_range = f.within_range;
        agrees = f.agrees;
        holds = (f.holds, λ y. q.1 (rw (f.agrees.stack, f.agrees.array A l_a, f.agrees.set S l_s) ((flat π v n f.is f.within_range b A S (i + arrays_in a) (j + sets_in a) c).0 y)));
      }

  -- ---- operator 9: S1 and S2 are where the two parts are allocated

  record Two (ν μ : Assignment) (j : ℕ) (S1 S2 : Set) : Type 0 where
    stack : μ.stack ≡ ν.stack
    array : (m : ℕ) → μ.array m ≡ ν.array m
    first : μ.set j ≡ S1
    second : μ.set (j + 1) ≡ S2
    old : (m : ℕ) → m < j → μ.set m ≡ ν.set m
    within_range : ValuesInRange v n μ

  two : (ν : Assignment) (j : ℕ) (g r : Map) → ValuesInRange v n ν → Heap n g → Heap n r → (μ : Assignment) × Two ν μ j (allocated g) (allocated r)
  two ν j g r k kg kr =
      let ν₁ = with_set ν j (allocated g) in
      let a = new_set v n ν j (allocated g) in
      let b = new_set v n ν₁ (j + 1) (allocated r) in (
        with_set ν₁ (j + 1) (allocated r),
        record {
          stack = b.stack ∙ a.stack;
          array = λ m. b.array m ∙ a.array m;
          first = b.old j (λ e. omega arith) ∙ a.new;
          second = b.new;
          old = λ m l. b.old m (λ e. omega arith) ∙ a.old m (λ e. omega arith);
          within_range = b.within_range (a.within_range k (not_allocated g 0 kg.nil) (λ ℓ l. not_allocated g ℓ (kg.past ℓ l))) (not_allocated r 0 kr.nil) (λ ℓ l. not_allocated r ℓ (kr.past ℓ l));
        },
      )

  module _ (a b : Form) (ca : Complete a) (cb : Complete b) (ν κ : Assignment) (A S i j : ℕ) (l_a : A < i) (l_s : S < j) (g r : Map)
      (pt : Parts g r (on (ν.array A) (ν.set S))) (d : Disjoint π v ν.stack g r) (t : Two ν κ j (allocated g) (allocated r)) where
    sep_trees : Holds π v n a ν.stack g → Holds π v n b ν.stack r → FoundBoth a b κ A j (j + 1) i (j + 2)
    sep_trees ha hb =
        both a b ca cb κ A j (j + 1) i (j + 2) t.within_range l_a (omega arith) (omega arith)
        (rw (t.stack, t.array A, t.first, first_part (ν.array A) (ν.set S) g r pt) ha)
        (rw (t.stack, t.array A, t.second, second_part (ν.array A) (ν.set S) g r pt) hb)

    sep_found : FoundBoth a b κ A j (j + 1) i (j + 2) → Found (sep a b) ν A S i j
    unfolding Condition
    sep_found f =
        let y = f.agrees in
        record {
          is = f.is;
          within_range = f.within_range;
          agrees = record { stack = sym t.stack ∙ y.stack; array = λ m z. sym (t.array m) ∙ y.array m z; set = λ m z. sym (t.old m z) ∙ y.set m (omega arith) };
          holds = (
            (
              (f.first, f.second),
              rw (← (y.set S (omega arith)), ← (y.set j (omega arith)), ← (y.set (j + 1) (omega arith)), t.old S l_s, t.first, t.second)
                  (parts_splits g r (on (ν.array A) (ν.set S)) (ν.set S) (allocated g) (allocated r) pt (domain_on (ν.array A) (ν.set S)) (domain_of g) (domain_of r)),
            ),
            rw (← y.stack, ← (y.array A l_a), ← (y.set j (omega arith)), ← (y.set (j + 1) (omega arith)), t.stack, t.array A, t.first, t.second)
                (parts_apart (ν.array A) (ν.set S) g r pt π v ν.stack d),
          );
        }

  complete_sep : (a b : Form) → Complete a → Complete b → Complete (sep a b)
  unfolding Complete
  complete_sep a b ca cb ν A S i j k l_a l_s q = go (unfold Holds in q)
    where
      go : (g : Map) × (r : Map) × Parts g r (on (ν.array A) (ν.set S)) × Disjoint π v ν.stack g r × Holds π v n a ν.stack g × Holds π v n b ν.stack r → Found (sep a b) ν A S i j
      go y =
          let kh = on_heap v n ν A S k in
          let w = two ν j y.0 y.1 k (first_heap n y.0 y.1 (on (ν.array A) (ν.set S)) y.2 kh) (second_heap n y.0 y.1 (on (ν.array A) (ν.set S)) y.2 kh) in
          sep_found a b ca cb ν w.0 A S i j l_a l_s y.0 y.1 y.2 y.3 w.1
          (sep_trees a b ca cb ν w.0 A S i j l_a l_s y.0 y.1 y.2 y.3 w.1 y.4 y.5)

  -- ---- operator 10: the new array has the values of the whole, S1 and S2 are where the added piece and the whole are allocated

  record Three (ν μ : Assignment) (i j : ℕ) (B : Map) (S1 S2 : Set) : Type 0 where
    stack : μ.stack ≡ ν.stack
    array : μ.array i ≡ B
    old_array : (m : ℕ) → m < i → μ.array m ≡ ν.array m
    first : μ.set j ≡ S1
    second : μ.set (j + 1) ≡ S2
    old : (m : ℕ) → m < j → μ.set m ≡ ν.set m
    within_range : ValuesInRange v n μ

  three : (ν : Assignment) (i j : ℕ) (g u : Map) → ValuesInRange v n ν → Heap n g → Heap n u → (μ : Assignment) × Three ν μ i j (values u) (allocated g) (allocated u)
  three ν i j g u k kg ku =
      let w = two ν j g u k kg ku in
      let a = new_array v n w.0 i (values u) in (
        with_array w.0 i (values u),
        record {
          stack = a.stack ∙ w.1.stack;
          array = a.new;
          old_array = λ m l. a.old m (λ e. omega arith) ∙ w.1.array m;
          first = a.set j ∙ w.1.first;
          second = a.set (j + 1) ∙ w.1.second;
          old = λ m l. a.set m ∙ w.1.old m l;
          within_range = a.within_range w.1.within_range (values_low n u ku) (values_alone n u ku);
        },
      )

  module _ (a b : Form) (ca : Complete a) (cb : Complete b) (ν κ : Assignment) (A S i j : ℕ) (l_a : A < i) (l_s : S < j) (g u : Map)
      (pt : Parts g (on (ν.array A) (ν.set S)) u) (d : Disjoint π v ν.stack g (on (ν.array A) (ν.set S)))
      (t : Three ν κ i j (values u) (allocated g) (allocated u)) where
    sept_trees : Holds π v n a ν.stack g → Holds π v n b ν.stack u → FoundBoth a b κ i j (j + 1) (i + 1) (j + 2)
    sept_trees ha hb =
        both a b ca cb κ i j (j + 1) (i + 1) (j + 2) t.within_range (omega arith) (omega arith) (omega arith)
        (rw (t.stack, t.array, t.first, added_part (ν.array A) (ν.set S) g u pt) ha)
        (rw (t.stack, t.array, t.second, whole u) hb)

    sept_found : FoundBoth a b κ i j (j + 1) (i + 1) (j + 2) → Found (sept a b) ν A S i j
    unfolding Condition
    sept_found f =
        let y = f.agrees in
        record {
          is = f.is;
          within_range = f.within_range;
          agrees = record { stack = sym t.stack ∙ y.stack; array = λ m z. sym (t.old_array m z) ∙ y.array m (omega arith); set = λ m z. sym (t.old m z) ∙ y.set m (omega arith) };
          holds = (
            (
              (
                (f.first, f.second),
                rw (← (y.set S (omega arith)), ← (y.set j (omega arith)), ← (y.set (j + 1) (omega arith)), t.old S l_s, t.first, t.second)
                    (parts_splits g (on (ν.array A) (ν.set S)) u (allocated u) (allocated g) (ν.set S) pt (domain_of u) (domain_of g) (domain_on (ν.array A) (ν.set S))),
              ),
              rw (← y.stack, ← (y.array i (omega arith)), ← (y.set j (omega arith)), ← (y.set S (omega arith)), t.stack, t.array, t.first, t.old S l_s)
                  (added_apart (ν.array A) (ν.set S) g u pt π v ν.stack d),
            ),
            rw (← (y.array A (omega arith)), ← (y.array i (omega arith)), ← (y.set S (omega arith)), t.old_array A l_a, t.array, t.old S l_s)
                (added_same (ν.array A) (ν.set S) g u pt),
          );
        }

  complete_sept : (a b : Form) → Complete a → Complete b → Complete (sept a b)
  unfolding Complete
  complete_sept a b ca cb ν A S i j k l_a l_s q = go (unfold Holds in q)
    where
      go : (g : Map) × (u : Map) × Heap n g × Parts g (on (ν.array A) (ν.set S)) u × Disjoint π v ν.stack g (on (ν.array A) (ν.set S)) × Holds π v n a ν.stack g × Holds π v n b ν.stack u → Found (sept a b) ν A S i j
      go y =
          let w = three ν i j y.0 y.1 k y.2 (whole_heap (ν.array A) (ν.set S) y.0 y.1 y.3 n y.2 (on_heap v n ν A S k)) in
          sept_found a b ca cb ν w.0 A S i j l_a l_s y.0 y.1 y.3 y.4 w.1
          (sept_trees a b ca cb ν w.0 A S i j l_a l_s y.0 y.1 y.3 y.4 w.1 y.5 y.6)

  -- a formula without operators 9 and 10 needs no new symbol
  complete_flat : (F : Form) → Flat F → Complete F
  unfolding Complete
  complete_flat F c ν A S i j k l_a l_s q = record { is = ν; within_range = k; agrees = agree_refl i j ν; holds = (flat π v n ν k F A S i j c).1 q }

  complete_of : (F : Form) → Encodable F → Complete F
  unfolding Encodable
  complete_of (same x y) c = complete_flat (same x y) (unfold Flat in tt)
  complete_of (diff x y) c = complete_flat (diff x y) (unfold Flat in tt)
  complete_of (pts x y) c = complete_flat (pts x y) (unfold Flat in tt)
  complete_of (ls x y) c = complete_flat (ls x y) (unfold Flat in tt)
  complete_of (conj a b) c = complete_conj a b (complete_of a c.0) (complete_of b c.1)
  complete_of (disj a b) c = complete_disj a b (complete_of a c.0) (complete_of b c.1)
  complete_of (but a b) c = complete_but a b (complete_of a c.0) c.1
  complete_of (neg a) c = complete_flat (neg a) (unfold Flat in c)
  complete_of (sep a b) c = complete_sep a b (complete_of a c.0) (complete_of b c.1)
  complete_of (sept a b) c = complete_sept a b (complete_of a c.0) (complete_of b c.1)

  pub complete : (F : Form) → Encodable F → (ν : Assignment) (A S i j : ℕ) → ValuesInRange v n ν → A < i → S < j → Holds π v n F ν.stack (on (ν.array A) (ν.set S)) → Found F ν A S i j
  unfolding Complete
  complete F c = complete_of F c
