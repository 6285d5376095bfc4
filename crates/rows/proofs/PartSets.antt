-- Two parts of a heap, as sets and an array: what SPLIT, APART and SAME say of them. Assumes nothing.
use Rattle.std.specs.Prelude.{◌≡◌, false, ◌⊎◌}
use Rattle.std.proofs.Common.{sym, subst, subst₂, ◌∙◌, ap, inl, inr, eq-eqb}
use Rattle.std.proofs.Math.Path.{fun_ext}
use Rattle.std.proofs.Math.Logic.{⊎_elim}
use Prim.Native.Nat.{ℕ, suc, pred, ◌<◌, ◌≤◌}
use Rattle.std.proofs.Math.Decide.{ℕ_discrete}
use native.Mathlib.Omega.{arith}
use Rattle.logic.specs.declared.Profile.{Profile}
use Rattle.logic.specs.Heap.{Map, Heap, Allocated, Disjoint, Parts}
use Rattle.logic.specs.Tests.{allocated}
use Rattle.logic.proofs.Agree.{is_allocated, union_heap, union_is}
use Rattle.rows.specs.Assignment.{Set, on}
use Rattle.rows.specs.Meaning.{Splits, Apart, Same}
use Rattle.rows.proofs.OnSet.{on_member, on_other, member_of, allocated_of, same_on}
use Rattle.rows.proofs.OnSetLaws.{disjoint_apart}
use Rattle.rows.specs.PartSets.{Domain}

pub domain_on : (A : Map) (S : Set) → Domain S (on A S)
domain_on A S ℓ = (allocated_of A S ℓ, member_of A S ℓ)

pub domain_of : (g : Map) → Domain (allocated g) g
domain_of g ℓ = ((is_allocated g ℓ).to, (is_allocated g ℓ).from)

pub not_allocated : (g : Map) (ℓ : ℕ) → g ℓ ≡ 0 → allocated g ℓ ≡ false
not_allocated g ℓ e = rw (eq-eqb (g ℓ) 0 e)

-- a heap that has only values of A is A on the set of its allocated locations
on_allocated : (A g : Map) → ((ℓ : ℕ) → Allocated g ℓ → g ℓ ≡ suc (A ℓ)) → on A (allocated g) ≡ g
on_allocated A g f = fun_ext λ ℓ. go ℓ (ℕ_discrete (g ℓ) 0)
  where
    go : (ℓ : ℕ) → Dec (g ℓ ≡ 0) → on A (allocated g) ℓ ≡ g ℓ
    go ℓ (yes e) = on_other A (allocated g) ℓ (not_allocated g ℓ e) ∙ sym e
    go ℓ (no e) = on_member A (allocated g) ℓ ((is_allocated g ℓ).from e) ∙ sym (f ℓ e)

-- two parts of a heap split its allocated locations
pub parts_splits : (g r h : Map) (S S1 S2 : Set) → Parts g r h → Domain S h → Domain S1 g → Domain S2 r → Splits S S1 S2
parts_splits g r h S S1 S2 pt d d1 d2 =
    record {
      alone = λ ℓ y. ⊎_elim (λ q. (d2 ℓ).0 y.1 q.1) (λ q. (d1 ℓ).0 y.0 q.0) (pt ℓ);
      make = λ ℓ. (
        λ m. ⊎_elim (λ q. inl ((d1 ℓ).1 (λ z. (d ℓ).0 m (sym q.0 ∙ z)))) (λ q. inr ((d2 ℓ).1 (λ z. (d ℓ).0 m (sym q.1 ∙ z)))) (pt ℓ),
        ⊎_elim (λ m. ⊎_elim (λ q. (d ℓ).1 (λ z. (d1 ℓ).0 m (q.0 ∙ z))) (λ q. absurd ((d1 ℓ).0 m q.0)) (pt ℓ))
            (λ m. ⊎_elim (λ q. absurd ((d2 ℓ).0 m q.1)) (λ q. (d ℓ).1 (λ z. (d2 ℓ).0 m (q.1 ∙ z))) (pt ℓ)),
      );
    }

-- operator 9: g and r are parts of array A on set S
module _ (A : Map) (S : Set) (g r : Map) (pt : Parts g r (on A S)) where
  value_on : (ℓ : ℕ) → Allocated (on A S) ℓ → on A S ℓ ≡ suc (A ℓ)
  value_on ℓ f = on_member A S ℓ (member_of A S ℓ f)

  pub first_part : on A (allocated g) ≡ g
  first_part = on_allocated A g (λ ℓ f. ⊎_elim (λ e. e.0 ∙ value_on ℓ (λ z. f (e.0 ∙ z))) (λ e. absurd (f e.0)) (pt ℓ))

  pub second_part : on A (allocated r) ≡ r
  second_part = on_allocated A r (λ ℓ f. ⊎_elim (λ e. absurd (f e.1)) (λ e. e.1 ∙ value_on ℓ (λ z. f (e.1 ∙ z))) (pt ℓ))

  pub parts_apart : (π : Profile) (v : ℕ) (s : Map) → Disjoint π v s g r → Apart π v s A (allocated g) (allocated r)
  parts_apart π v s d =
      disjoint_apart π v s A (allocated g) (allocated r) (subst₂ (Disjoint π v s) (sym first_part) (sym second_part) d)

-- operator 10: g and array A on set S are parts of u, whose values are those of the new array
pub values : Map → Map
values u ℓ = pred (u ℓ)

some_value : (x : ℕ) → ¬ (x ≡ 0) → x ≡ suc (pred x)
some_value x f = omega arith

pub whole : (u : Map) → on (values u) (allocated u) ≡ u
unfolding values
whole u = on_allocated (values u) u (λ ℓ f. some_value (u ℓ) f)

pub values_low : (n : ℕ) (u : Map) → Heap n u → (ℓ : ℕ) → values u ℓ ≤ n
unfolding values
values_low n u k ℓ = go (u ℓ) (k.low ℓ)
  where
    go : (x : ℕ) → x ≤ suc n → pred x ≤ n
    go x l = omega arith

pub values_alone : (n : ℕ) (u : Map) → Heap n u → (ℓ : ℕ) → (ℓ ≡ 0) ⊎ (n < ℓ) → values u ℓ ≡ 0
unfolding values
values_alone n u k ℓ z = ap pred (⊎_elim (λ e. ap u e ∙ k.nil) (λ l. k.past ℓ l) z)

module _ (A : Map) (S : Set) (g u : Map) (pt : Parts g (on A S) u) where
  pub added_part : on (values u) (allocated g) ≡ g
  unfolding values
  added_part = on_allocated (values u) g (λ ℓ f. ⊎_elim (λ e. e.0 ∙ some_value (u ℓ) (λ z. f (e.0 ∙ z))) (λ e. absurd (f e.0)) (pt ℓ))

  pub added_same : Same A (values u) S
  unfolding values
  added_same ℓ m =
      let c = on_member A S ℓ m in
      ⊎_elim (λ q. absurd (omega (arith, q.1, c))) (λ q. of_suc (u ℓ) (A ℓ) (sym q.1 ∙ c)) (pt ℓ)
    where
      of_suc : (x y : ℕ) → x ≡ suc y → y ≡ pred x
      of_suc x y e = omega arith

  pub added_apart : (π : Profile) (v : ℕ) (s : Map) → Disjoint π v s g (on A S) → Apart π v s (values u) (allocated g) S
  added_apart π v s d =
      disjoint_apart π v s (values u) (allocated g) S (subst₂ (Disjoint π v s) (sym added_part) (same_on A (values u) S added_same) d)

  pub whole_heap : (n : ℕ) → Heap n g → Heap n (on A S) → Heap n u
  whole_heap n kg kh = subst (Heap n) (union_is g (on A S) u pt) (union_heap n g (on A S) kg kh)
