-- Arrays and sets that are assigned anew, and that a condition reads no symbol but those that it is given and those that it
-- makes. Assumes nothing.
use Rattle.std.specs.Prelude.{◌≡◌, refl, Bool, ◌⊎◌, ℕ, ◌+◌, ◌<◌, ◌≤◌, eqb}
use Rattle.std.proofs.Common.{sym, ◌∙◌, arith, eq-eqb, ne_eqb}
use Rattle.std.proofs.Math.Bool.{true, false}
use Rattle.std.proofs.Math.Logic.{inl, inr, ⊎_elim}
use Rattle.logic.specs.declared.Profile.{Profile}
use Rattle.logic.specs.Heap.{Map}
use Rattle.logic.specs.Formula.{Form}
use Rattle.logic.specs.Formula.Form.{same, diff, pts, ls, conj, disj, but, neg, sep, sept}
use Rattle.rows.specs.Assignment.{Set, Assignment, ValuesInRange}
use Rattle.rows.specs.Table.{arrays_in, sets_in}
use Rattle.rows.specs.Condition.{Condition}
use Rattle.rows.specs.Symbols.{Agree}

pub agree_less : {i j : ℕ} {ν μ : Assignment} → Agree i j ν μ → (i' j' : ℕ) → i' ≤ i → j' ≤ j → Agree i' j' ν μ
agree_less g i' j' a b = record { stack = g.stack; array = λ k l. g.array k (omega arith); set = λ k l. g.set k (omega arith) }

agree_sym : {i j : ℕ} {ν μ : Assignment} → Agree i j ν μ → Agree i j μ ν
agree_sym g = record { stack = sym g.stack; array = λ k l. sym (g.array k l); set = λ k l. sym (g.set k l) }

pub agree_refl : (i j : ℕ) (ν : Assignment) → Agree i j ν ν
agree_refl i j ν = record { stack = refl; array = λ k l. refl; set = λ k l. refl }

pub agree_trans : {i j : ℕ} {ν μ κ : Assignment} → Agree i j ν μ → Agree i j μ κ → Agree i j ν κ
agree_trans g h = record { stack = g.stack ∙ h.stack; array = λ k l. g.array k l ∙ h.array k l; set = λ k l. g.set k l ∙ h.set k l }

-- what a condition over array A and set S says under ν it says under each μ that agrees with ν so far
module _ (π : Profile) (v n : ℕ) where
  pub condition_kept : (F : Form) (ν μ : Assignment) (A S i j : ℕ) → A < i → S < j → Agree (i + arrays_in F) (j + sets_in F) ν μ → Condition π v n ν F A S i j → Condition π v n μ F A S i j
  unfolding Condition arrays_in sets_in
  condition_kept (same x y) ν μ A S i j a b g q = rw (← g.stack, ← (g.set S (omega arith))) q
  condition_kept (diff x y) ν μ A S i j a b g q = rw (← g.stack, ← (g.set S (omega arith))) q
  condition_kept (pts x y) ν μ A S i j a b g q = rw (← g.stack, ← (g.array A (omega arith)), ← (g.set S (omega arith))) q
  condition_kept (ls x y) ν μ A S i j a b g q = rw (← g.stack, ← (g.array A (omega arith)), ← (g.set S (omega arith))) q
  condition_kept (conj c d) ν μ A S i j a b g q = (
    condition_kept c ν μ A S i j a b (agree_less g (i + arrays_in c) (j + sets_in c) (omega arith) (omega arith)) q.0,
    condition_kept d ν μ A S (i + arrays_in c) (j + sets_in c) (omega arith) (omega arith) (agree_less g (i + arrays_in c + arrays_in d) (j + sets_in c + sets_in d) (omega arith) (omega arith)) q.1,
  )
  condition_kept (disj c d) ν μ A S i j a b g q =
      ⊎_elim (λ y. inl (condition_kept c ν μ A S i j a b (agree_less g (i + arrays_in c) (j + sets_in c) (omega arith) (omega arith)) y))
      (λ y. inr (condition_kept d ν μ A S (i + arrays_in c) (j + sets_in c) (omega arith) (omega arith) (agree_less g (i + arrays_in c + arrays_in d) (j + sets_in c + sets_in d) (omega arith) (omega arith)) y)) q
  condition_kept (but c d) ν μ A S i j a b g q = (
    condition_kept c ν μ A S i j a b (agree_less g (i + arrays_in c) (j + sets_in c) (omega arith) (omega arith)) q.0,
    λ y. q.1 (condition_kept d μ ν A S (i + arrays_in c) (j + sets_in c) (omega arith) (omega arith) (agree_sym (agree_less g (i + arrays_in c + arrays_in d) (j + sets_in c + sets_in d) (omega arith) (omega arith))) y),
  )
  condition_kept (neg c) ν μ A S i j a b g q = λ y. q (condition_kept c μ ν A S i j a b (agree_sym g) y)
  condition_kept (sep c d) ν μ A S i j a b g q = (
    (
      (
        condition_kept c ν μ A j i (j + 2) a (omega arith) (agree_less g (i + arrays_in c) (j + 2 + sets_in c) (omega arith) (omega arith)) q.0.0.0,
        condition_kept d ν μ A (j + 1) (i + arrays_in c) (j + 2 + sets_in c) (omega arith) (omega arith) (agree_less g (i + arrays_in c + arrays_in d) (j + 2 + sets_in c + sets_in d) (omega arith) (omega arith)) q.0.0.1,
      ),
      rw (← (g.set S (omega arith)), ← (g.set j (omega arith)), ← (g.set (j + 1) (omega arith))) q.0.1,
    ),
    rw (← g.stack, ← (g.array A (omega arith)), ← (g.set j (omega arith)), ← (g.set (j + 1) (omega arith))) q.1,
  )
  condition_kept (sept c d) ν μ A S i j a b g q = (
    (
      (
        (
          condition_kept c ν μ i j (i + 1) (j + 2) (omega arith) (omega arith) (agree_less g (i + 1 + arrays_in c) (j + 2 + sets_in c) (omega arith) (omega arith)) q.0.0.0.0,
          condition_kept d ν μ i (j + 1) (i + 1 + arrays_in c) (j + 2 + sets_in c) (omega arith) (omega arith) (agree_less g (i + 1 + arrays_in c + arrays_in d) (j + 2 + sets_in c + sets_in d) (omega arith) (omega arith)) q.0.0.0.1,
        ),
        rw (← (g.set S (omega arith)), ← (g.set j (omega arith)), ← (g.set (j + 1) (omega arith))) q.0.0.1,
      ),
      rw (← g.stack, ← (g.array i (omega arith)), ← (g.set j (omega arith)), ← (g.set S (omega arith))) q.0.1,
    ),
    rw (← (g.array A (omega arith)), ← (g.array i (omega arith)), ← (g.set S (omega arith))) q.1,
  )

-- ---- one set or one array anew

pick_set : Bool → Set → Set → Set
pick_set true a b = a
pick_set false a b = b

pick_map : Bool → Map → Map → Map
pick_map true a b = a
pick_map false a b = b

pub with_set : Assignment → ℕ → Set → Assignment
with_set ν k T = record { stack = ν.stack; array = ν.array; set = λ m. pick_set (eqb m k) T (ν.set m) }

pub with_array : Assignment → ℕ → Map → Assignment
with_array ν k T = record { stack = ν.stack; array = λ m. pick_map (eqb m k) T (ν.array m); set = ν.set }

module _ (v n : ℕ) (ν : Assignment) (k : ℕ) where
  -- what is new, what stays, and that it stays in range
  pub record NewSet (T : Set) (μ : Assignment) : Type 0 where
    pub stack : μ.stack ≡ ν.stack
    pub array : (m : ℕ) → μ.array m ≡ ν.array m
    pub new : μ.set k ≡ T
    pub old : (m : ℕ) → ¬ (m ≡ k) → μ.set m ≡ ν.set m
    pub within_range : ValuesInRange v n ν → T 0 ≡ false → ((ℓ : ℕ) → n < ℓ → T ℓ ≡ false) → ValuesInRange v n μ

  pub record NewArray (T : Map) (μ : Assignment) : Type 0 where
    pub stack : μ.stack ≡ ν.stack
    pub set : (m : ℕ) → μ.set m ≡ ν.set m
    pub new : μ.array k ≡ T
    pub old : (m : ℕ) → ¬ (m ≡ k) → μ.array m ≡ ν.array m
    pub within_range : ValuesInRange v n ν → ((ℓ : ℕ) → T ℓ ≤ n) → ((ℓ : ℕ) → (ℓ ≡ 0) ⊎ (n < ℓ) → T ℓ ≡ 0) → ValuesInRange v n μ

  pub new_set : (T : Set) → NewSet T (with_set ν k T)
  unfolding with_set pick_set
  new_set T =
      record {
        stack = refl;
        array = λ m. refl;
        new = rw (eq-eqb k k refl);
        old = λ m e. rw (ne_eqb m k e);
        within_range = λ l z q. record { stack = l.stack; low = l.low; alone = l.alone; nil = λ i. nil' (eqb i k) i l z; past = λ i ℓ m. past' (eqb i k) i ℓ l q m };
      }
    where
      nil' : (b : Bool) (i : ℕ) → ValuesInRange v n ν → T 0 ≡ false → pick_set b T (ν.set i) 0 ≡ false
      nil' true i l z = z
      nil' false i l z = l.nil i

      past' : (b : Bool) (i ℓ : ℕ) → ValuesInRange v n ν → ((ℓ : ℕ) → n < ℓ → T ℓ ≡ false) → n < ℓ → pick_set b T (ν.set i) ℓ ≡ false
      past' true i ℓ l q m = q ℓ m
      past' false i ℓ l q m = l.past i ℓ m

  pub new_array : (T : Map) → NewArray T (with_array ν k T)
  unfolding with_array pick_map
  new_array T =
      record {
        stack = refl;
        set = λ m. refl;
        new = rw (eq-eqb k k refl);
        old = λ m e. rw (ne_eqb m k e);
        within_range = λ l q w. record { stack = l.stack; low = λ i ℓ. low' (eqb i k) i ℓ l q; alone = λ i ℓ z. alone' (eqb i k) i ℓ l (w ℓ) z; nil = l.nil; past = l.past };
      }
    where
      low' : (b : Bool) (i ℓ : ℕ) → ValuesInRange v n ν → ((ℓ : ℕ) → T ℓ ≤ n) → pick_map b T (ν.array i) ℓ ≤ n
      low' true i ℓ l q = q ℓ
      low' false i ℓ l q = l.low i ℓ

      alone' : (b : Bool) (i ℓ : ℕ) → ValuesInRange v n ν → ((ℓ ≡ 0) ⊎ (n < ℓ) → T ℓ ≡ 0) → (ℓ ≡ 0) ⊎ (n < ℓ) → pick_map b T (ν.array i) ℓ ≡ 0
      alone' true i ℓ l w z = w z
      alone' false i ℓ l w z = l.alone i ℓ z
