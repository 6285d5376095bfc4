-- Laws of the digits of a number, packed one by one: the candidate of a number. Assumes nothing.
use Rattle.std.specs.Prelude.{◌≡◌, ℕ, zero, suc, ◌+◌, ◌/◌, ◌%◌, ◌^◌, ◌<◌, ◌≤◌, eqb, leb}
use Rattle.std.proofs.Common.{sym, subst, ◌∙◌, ap, ap₂, pow-suc, div-one, add-one, arith, eq-eqb, ne_eqb, le-leb}
use Rattle.std.proofs.Math.Path.{fun_ext}
use Rattle.std.proofs.Math.Nat.{pow-zero, div-div-eq-div-mul}
use Rattle.std.proofs.Math.Decide.{dec_le, ℕ_discrete}
use Rattle.std.specs.Int.Bits.{bit_or}
use Rattle.std.proofs.lemmas.Bool.{lt-leb}
use Rattle.logic.specs.Heap.{Stack, Heap}
use Rattle.logic.specs.Tests.{pick}
use Rattle.logic.specs.Candidates.{total, digits_of, stack_of, number_of}
use Rattle.logic.proofs.NumberLaws.{digits_at_is, digits_past, digits_nil, digits_in_base}
use Rattle.logic.proofs.CandidateLaws.{in_base_stack, in_base_heap, heap_of_digits, number_of_candidate}
use Rattle.cells.specs.Cells.{most, cells, Placed}
use Rattle.cells.specs.Bits.{digit_is}
use Rattle.cells.specs.Packing.{cells_zero}
use Rattle.cells.specs.Heaps.{put_at}
use Rattle.candidates.specs.Counter.{Unpacks, WithinBounds, number}
use Rattle.candidates.specs.CounterLaws.{candidate}

-- r has the digits of x for 1 to i, and left is what comes above
pub record Unpacking (b k x i r left : ℕ) : Type 0 where
  pub up_to : i ≤ k
  pub rest : left ≡ x / b ^ i
  pub is : (ℓ : ℕ) → cells r ℓ ≡ pick (leb ℓ i) (digits_of b k x ℓ) 0

pub unpacking_none : (b k x : ℕ) → Unpacking b k x 0 0 x
unpacking_none b k x =
    record { up_to = omega arith; rest = sym (ap (λ (y : ℕ). x / y) (pow-zero b) ∙ div-one x); is = λ ℓ. cells_zero ℓ ∙ sym (at ℓ) }
  where
    at : (ℓ : ℕ) → pick (leb ℓ 0) (digits_of b k x ℓ) 0 ≡ 0
    at zero = digits_nil b k x
    at (suc ℓ) = rw (lt-leb (suc ℓ) 0 (omega arith))

pub unpacking_more : (b k x i r left q : ℕ) → Unpacking b k x i r left → i < k → Placed (left % b) (i + 1) q → Unpacking b k x (i + 1) (bit_or r q) (left / b)
unpacking_more b k x i r left q t l p =
    record {
      up_to = omega arith;
      rest = ap (λ (y : ℕ). y / b) t.rest ∙ div-div-eq-div-mul x (b ^ i) b ∙ ap (λ (y : ℕ). x / y) (sym (pow-suc b i) ∙ ap (λ (y : ℕ). b ^ y) (sym (add-one i)));
      is = λ ℓ. put_at r (left % b) (i + 1) q none p ℓ ∙ at ℓ (ℕ_discrete ℓ (i + 1)) (dec_le ℓ i);
    }
  where
    none : cells r (i + 1) ≡ 0
    none = t.is (i + 1) ∙ rw (lt-leb (i + 1) i (omega arith))

    here : left % b ≡ digits_of b k x (i + 1)
    here = ap (λ (y : ℕ). y % b) t.rest ∙ digit_is b x i ∙ sym (digits_at_is b k x i l) ∙ ap (digits_of b k x) (sym (add-one i))

    at : (ℓ : ℕ) → Dec (ℓ ≡ i + 1) → Dec (ℓ ≤ i) → pick (eqb ℓ (i + 1)) (left % b) (cells r ℓ) ≡ pick (leb ℓ (i + 1)) (digits_of b k x ℓ) 0
    at ℓ (yes e) z = rw (eq-eqb ℓ (i + 1) e, le-leb ℓ (i + 1) (omega arith)) (here ∙ ap (digits_of b k x) (sym e))
    at ℓ (no e) (yes m) = rw (ne_eqb ℓ (i + 1) e, le-leb ℓ (i + 1) (omega arith)) (t.is ℓ ∙ rw (le-leb ℓ i m))
    at ℓ (no e) (no m) = rw (ne_eqb ℓ (i + 1) e, lt-leb ℓ (i + 1) (omega arith)) (t.is ℓ ∙ rw (lt-leb ℓ i (omega arith)))

pub unpacking_done : (b k x i r left : ℕ) → Unpacking b k x i r left → k ≤ i → Unpacks b k x r
unpacking_done b k x i r left t m ℓ = t.is ℓ ∙ go (dec_le ℓ i)
  where
    go : Dec (ℓ ≤ i) → pick (leb ℓ i) (digits_of b k x ℓ) 0 ≡ digits_of b k x ℓ
    go (yes l) = rw (le-leb ℓ i l)
    go (no l) = rw (lt-leb ℓ i (omega arith)) (sym (digits_past b k x ℓ (omega (arith, t.up_to))))

-- candidate i
module _ (v n i h s : ℕ) (lv : v ≤ most) (ln : n ≤ most) (uh : Unpacks (n + 2) n i h) (us : Unpacks (n + 1) v (i / (n + 2) ^ n) s) where
  heap_is : cells h ≡ digits_of (n + 2) n i
  heap_is = fun_ext λ ℓ. uh ℓ

  stack_is : cells s ≡ stack_of v n i
  stack_is = fun_ext λ x. us x

  pub at_range : WithinBounds (candidate h s v n)
  at_range =
      record {
        few_vars = lv;
        few_locs = ln;
        stack = subst (Stack v n) (sym stack_is) (in_base_stack v n (stack_of v n i) (digits_in_base (n + 1) v (i / (n + 2) ^ n) (omega arith)));
        heap = subst (Heap n) (sym heap_is) (in_base_heap n (digits_of (n + 2) n i) (digits_in_base (n + 2) n i (omega arith)));
      }

  pub at_number : i < total v n → number (candidate h s v n) ≡ i
  at_number l = ap₂ (number_of v n) stack_is (heap_is ∙ sym (heap_of_digits n i)) ∙ number_of_candidate v n i l
