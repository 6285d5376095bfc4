-- An array on a set, as a heap: what the rows of an atom, SPLIT, APART and SAME say of it. Assumes nothing.
use Rattle.std.specs.Prelude.{◌≡◌, refl, Bool, true, false, ◌⊎◌, ◌↔◌, ℕ, suc, ◌≤◌}
use Rattle.std.proofs.Common.{sym, subst, ◌∙◌, ap, inl, inr, ⊎_elim, zero-le, suc-le-suc, arith}
use Rattle.std.proofs.Math.Path.{fun_ext}
use Rattle.logic.specs.Heap.{Map, Heap, Allocated, Locs, Parts, Empty}
use Rattle.logic.specs.Holds.{Points, Chain}
use Rattle.logic.specs.Tests.{pick}
use Rattle.logic.proofs.Reflect.{false_true}
use Rattle.rows.specs.Assignment.{Set, Member, Assignment, ValuesInRange, on}
use Rattle.rows.specs.Meaning.{NoMember, Just, Holding, Links, Splits, WithValues, Same}

-- no member of a set where the test fails
not_member : {P : Type 0} (S : Set) (ℓ : ℕ) → S ℓ ≡ false → Member S ℓ → P
not_member S ℓ e m = false_true (sym e ∙ m)

module _ (A : Map) (S : Set) (ℓ : ℕ) where
  pub on_member : Member S ℓ → on A S ℓ ≡ suc (A ℓ)
  unfolding on
  on_member e = rw e

  pub on_other : S ℓ ≡ false → on A S ℓ ≡ 0
  unfolding on
  on_other e = rw e

  pub member_of : Allocated (on A S) ℓ → Member S ℓ
  member_of f = go (S ℓ) refl
    where
      go : (b : Bool) → S ℓ ≡ b → S ℓ ≡ true
      go true e = e
      go false e = absurd (f (on_other e))

  pub allocated_of : Member S ℓ → Allocated (on A S) ℓ
  allocated_of m z = let e = on_member m in absurd (omega (arith, z, e))

  pub value_of : (x : ℕ) → on A S ℓ ≡ suc x → Member S ℓ × (A ℓ ≡ x)
  value_of x e =
      let m : Member S ℓ = member_of (λ z. absurd (omega (arith, z, e))) in
      let q = on_member m in
      (m, omega (arith, e, q))

  pub on_same : (T : Set) → S ℓ ≡ T ℓ → on A S ℓ ≡ on A T ℓ
  unfolding on
  on_same T e = rw e

pub on_heap : (v n : ℕ) (ν : Assignment) (A S : ℕ) → ValuesInRange v n ν → Heap n (on (ν.array A) (ν.set S))
unfolding on
on_heap v n ν A S k = record { nil = rw (k.nil S); past = λ ℓ l. rw (k.past S ℓ l); low = λ ℓ. go ℓ (ν.set S ℓ) }
  where
    go : (ℓ : ℕ) (b : Bool) → pick b (suc (ν.array A ℓ)) 0 ≤ suc n
    go ℓ true = suc-le-suc (k.low A ℓ)
    go ℓ false = zero-le

-- ---- the rows of atoms

pub empty_on : (A : Map) (S : Set) → NoMember S ↔ Empty (on A S)
empty_on A S = (λ q ℓ. go ℓ (S ℓ) refl (q ℓ), λ q ℓ m. allocated_of A S ℓ m (q ℓ))
  where
    go : (ℓ : ℕ) (b : Bool) → S ℓ ≡ b → ¬ Member S ℓ → on A S ℓ ≡ 0
    go ℓ true e f = absurd (f e)
    go ℓ false e f = on_other A S ℓ e

module _ (A : Map) (S : Set) (nil : S 0 ≡ false) where
  pub points_on : (a b : ℕ) → (Just S a × Holding A a b) ↔ Points a b (on A S)
  points_on a b = (
    λ q. record { here = on_member A S a ((q.0.just a).1 refl) ∙ ap suc q.1.1; only = λ ℓ f. (q.0.just ℓ).0 (member_of A S ℓ f) },
    λ q. back q,
  )
    where
      back : Points a b (on A S) → Just S a × Holding A a b
      back q =
          let m = value_of A S a b q.here in
          let some : ¬ (a ≡ 0) = λ e. not_member S 0 nil (subst (Member S) e m.0) in
          (record { not_nil = some; just = λ ℓ. (λ y. q.only ℓ (allocated_of A S ℓ y), λ e. subst (Member S) (sym e) m.0) }, (some, m.1))

  pub chain_on : (a b k : ℕ) → Links A S a b k ↔ Chain k a b (on A S)
  chain_on a b k = (
    λ q. record {
      at = q.at;
      first = q.first;
      last = q.last;
      link = λ i l. on_member A S (q.at i) ((q.members (q.at i)).1 (i, l, refl)) ∙ ap suc (q.link i l);
      different = q.different;
      only = λ ℓ f. (q.members ℓ).0 (member_of A S ℓ f);
    },
    λ q. record {
      at = q.at;
      first = q.first;
      last = q.last;
      link = λ i l. (value_of A S (q.at i) (q.at (suc i)) (q.link i l)).1;
      different = q.different;
      members = λ ℓ. (λ m. q.only ℓ (allocated_of A S ℓ m), λ y. subst (Member S) y.2 (value_of A S (q.at y.0) (q.at (suc y.0)) (q.link y.0 y.1)).0);
      not_nil = λ i l e. not_member S 0 nil (subst (Member S) e (value_of A S (q.at i) (q.at (suc i)) (q.link i l)).0);
    },
  )
  -- "x and y the same and h empty; or a chain of" links

-- ---- SPLIT, APART and SAME

pub splits_parts : (A : Map) (S S1 S2 : Set) → Splits S S1 S2 → Parts (on A S1) (on A S2) (on A S)
splits_parts A S S1 S2 q ℓ = go (S1 ℓ) refl (S2 ℓ) refl (S ℓ) refl
  where
    go : (b : Bool) → S1 ℓ ≡ b → (c : Bool) → S2 ℓ ≡ c → (d : Bool) → S ℓ ≡ d → ((on A S1 ℓ ≡ on A S ℓ) × (on A S2 ℓ ≡ 0)) ⊎ ((on A S1 ℓ ≡ 0) × (on A S2 ℓ ≡ on A S ℓ))
    go true e true f d g = absurd (q.alone ℓ (e, f))
    go true e false f d g = inl (on_same A S1 ℓ S (e ∙ sym ((q.make ℓ).1 (inl e))), on_other A S2 ℓ f)
    go false e true f d g = inr (on_other A S1 ℓ e, on_same A S2 ℓ S (f ∙ sym ((q.make ℓ).1 (inr f))))
    go false e false f true g = absurd (⊎_elim (not_member S1 ℓ e) (not_member S2 ℓ f) ((q.make ℓ).0 g))
    go false e false f false g = inr (on_other A S1 ℓ e, on_same A S2 ℓ S (f ∙ sym g))

-- "S1 with its values" is locs of the array on S1
pub with_values : (A : Map) (S : Set) (ℓ : ℕ) → Locs (on A S) ℓ ↔ WithValues A S ℓ
with_values A S ℓ = (
  ⊎_elim (λ a. inl (member_of A S ℓ a)) (λ y. let w = value_of A S y.0 ℓ y.1 in inr (y.0, w.0, w.1)),
  ⊎_elim (λ m. inl (allocated_of A S ℓ m)) (λ y. inr (y.0, on_member A S y.0 y.1 ∙ ap suc y.2)),
)

pub same_on : (A B : Map) (S : Set) → Same A B S → on A S ≡ on B S
same_on A B S q = fun_ext λ ℓ. go ℓ (S ℓ) refl
  where
    go : (ℓ : ℕ) (b : Bool) → S ℓ ≡ b → on A S ℓ ≡ on B S ℓ
    go ℓ true e = on_member A S ℓ e ∙ ap suc (q ℓ e) ∙ sym (on_member B S ℓ e)
    go ℓ false e = on_other A S ℓ e ∙ sym (on_other B S ℓ e)
