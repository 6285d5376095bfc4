-- What a renumbering makes of stacks, digits and heaps; and what is one-to-one on 0 to n, nil staying put, is one. Assumes
-- nothing.
use Rattle.std.specs.Prelude.{◌≡◌, refl, ℕ, zero, suc, ◌<◌, ◌≤◌}
use Rattle.std.proofs.Common.{sym, ◌∙◌, zero-le, suc-le-suc, le_of_suc-le-suc, le-leb}
use Rattle.std.proofs.Math.Path.{ap, fun_ext}
use Rattle.std.proofs.Math.Decide.{dec_le}
use native.Mathlib.Omega.{arith}
use Rattle.std.proofs.lemmas.Bool.{lt-leb}
use Rattle.logic.specs.Heap.{Map, Stack, Heap, Allocated}
use Rattle.laws.specs.Renumbering.{Renumbering, within, new_stack, renumbered_digit, new_heap}

module _ (n : ℕ) (to from : Map) (w : Renumbering n to from) where
  nil_back : from 0 ≡ 0
  nil_back = ap from (sym w.nil) ∙ w.there 0

  pub turned : Renumbering n from to
  turned = record { there = w.back; back = w.there; nil = nil_back; low = w.low_back; low_back = w.low }

  pub same_of : (a b : ℕ) → to a ≡ to b → a ≡ b
  same_of a b e = sym (w.there a) ∙ ap from e ∙ w.there b

  pub stack_back : (s : Map) → new_stack from (new_stack to s) ≡ s
  unfolding new_stack
  stack_back s = fun_ext λ x. w.there (s x)

  digit_back : (x : ℕ) → renumbered_digit from (renumbered_digit to x) ≡ x
  digit_back zero = refl
  digit_back (suc x) = ap suc (w.there x)

  pub heap_back : (h : Map) → new_heap from to (new_heap to from h) ≡ h
  unfolding new_heap
  heap_back h = fun_ext λ ℓ. ap (λ (j : ℕ). renumbered_digit from (renumbered_digit to (h j))) (w.there ℓ) ∙ digit_back (h ℓ)

  pub digit_some : (x y : ℕ) → renumbered_digit to x ≡ suc y → x ≡ suc (from y)
  digit_some zero y e = absurd (omega arith)
  digit_some (suc x) y e = ap suc (sym (w.there x) ∙ ap from (omega arith))

  pub heap_at : (h : Map) (ℓ : ℕ) → new_heap to from h (to ℓ) ≡ renumbered_digit to (h ℓ)
  unfolding new_heap
  heap_at h ℓ = ap (λ (j : ℕ). renumbered_digit to (h j)) (w.there ℓ)

  pub heap_none : (h : Map) (ℓ : ℕ) → h (from ℓ) ≡ 0 → new_heap to from h ℓ ≡ 0
  unfolding new_heap
  heap_none h ℓ e = ap (renumbered_digit to) e

  pub allocated_back : (h : Map) (ℓ : ℕ) → Allocated (new_heap to from h) ℓ → Allocated h (from ℓ)
  allocated_back h ℓ f e = f (heap_none h ℓ e)

  pub new_stack_is : (v : ℕ) (s : Map) → Stack v n s → Stack v n (new_stack to s)
  unfolding new_stack
  new_stack_is v s k = record { nil = ap to k.nil ∙ w.nil; low = λ x. w.low (s x) (k.low x); past = λ x l. ap to (k.past x l) ∙ w.nil }

  pub new_heap_is : (h : Map) → Heap n h → Heap n (new_heap to from h)
  unfolding new_heap
  new_heap_is h k =
      record {
        nil = ap (λ (j : ℕ). renumbered_digit to (h j)) nil_back ∙ ap (renumbered_digit to) k.nil;
        past = λ ℓ l. ap (renumbered_digit to) (k.past (from ℓ) (far ℓ l (dec_le (from ℓ) n)));
        low = λ ℓ. digit_low (h (from ℓ)) (k.low (from ℓ));
      }
    where
      far : (ℓ : ℕ) → n < ℓ → Dec (from ℓ ≤ n) → n < from ℓ
      far ℓ l (yes q) = absurd (omega (arith, w.low (from ℓ) q, w.back ℓ))
      far ℓ l (no q) = omega arith

      digit_low : (x : ℕ) → x ≤ suc n → renumbered_digit to x ≤ suc n
      digit_low zero l = zero-le
      digit_low (suc x) l = suc-le-suc (w.low x (le_of_suc-le-suc l))

-- ---- the locations past n

within_low : (n : ℕ) (to : Map) → ((ℓ : ℕ) → ℓ ≤ n → to ℓ ≤ n) → (ℓ : ℕ) → ℓ ≤ n → within n to ℓ ≤ n
within_low n to low' ℓ l = rw (le-leb ℓ n l) (low' ℓ l)

within_back : (n : ℕ) (to from : Map) → ((ℓ : ℕ) → ℓ ≤ n → from (to ℓ) ≡ ℓ) → ((ℓ : ℕ) → ℓ ≤ n → to ℓ ≤ n) → (ℓ : ℕ) → within n from (within n to ℓ) ≡ ℓ
within_back n to from there' low' ℓ = go (dec_le ℓ n)
  where
    go : Dec (ℓ ≤ n) → within n from (within n to ℓ) ≡ ℓ
    go (yes l) = rw (le-leb ℓ n l, le-leb (to ℓ) n (low' ℓ l)) (there' ℓ l)
    go (no l) = rw (lt-leb ℓ n (omega arith), lt-leb ℓ n (omega arith))

-- what is one-to-one on 0 to n and keeps nil is a renumbering, where each location past n keeps its number
pub permutation : (n : ℕ) (to from : Map) → ((ℓ : ℕ) → ℓ ≤ n → from (to ℓ) ≡ ℓ) → ((ℓ : ℕ) → ℓ ≤ n → to (from ℓ) ≡ ℓ) → to 0 ≡ 0 → ((ℓ : ℕ) → ℓ ≤ n → to ℓ ≤ n) → ((ℓ : ℕ) → ℓ ≤ n → from ℓ ≤ n) → Renumbering n (within n to) (within n from)
permutation n to from there' back' nil' low' low_back' =
    record {
      there = within_back n to from there' low';
      back = within_back n from to back' low_back';
      nil = rw (le-leb 0 n zero-le) nil';
      low = within_low n to low';
      low_back = within_low n from low_back';
    }
