-- A model in range is a stack and a heap, and the judge's statement allows one answer. Assumes nothing.
use Rattle.std.specs.Prelude.{◌≡◌, refl, Bool, true, false, List, eqb, ltb, get_or}
use Rattle.std.proofs.Common.{sym, ◌∙◌, ap, ⊎_elim, arith, le-ltb, eq-eqb}
use Prim.Native.Nat.{ℕ, zero, suc, zero-le, ◌+◌, ◌<◌, ◌≤◌}
use Rattle.std.proofs.Math.Decide.{dec_lt}
use Rattle.logic.specs.declared.Profile.{Profile}
use Rattle.logic.specs.declared.Answer.{Answer}
use Rattle.logic.specs.Checks.{Passes}
use Rattle.logic.specs.CheckLaws.{Single, Refuses}
use Rattle.logic.proofs.CheckLaws.{passes_at, answers_single, refuses_upto}
use Rattle.logic.specs.Heap.{Map, Stack, Heap}
use Rattle.logic.specs.Tests.{pick, short}
use Rattle.logic.specs.Reflect.{Is}
use Rattle.logic.proofs.Reflect.{is_and}
use Rattle.logic.specs.Formula.{Form}
use Rattle.logic.specs.Truth.{truth}
use Rattle.logic.proofs.PathLaws.{is_short}
use Rattle.logic.specs.Book.{vars_of, locs_of, path_of, book_formula}
use Rattle.logic.specs.Model.{stack_in, heap_in, digit_of, ByteOk, byte_checks, model_checks, judge_checks, Fits, FitsBook, Verdict, Judges}
use Rattle.logic.specs.Computed.{fits, fits_book}
use Rattle.logic.proofs.TruthHolds.{truth_holds}

pick_le : (b : Bool) (x k : ℕ) → x ≤ k → pick b x 0 ≤ k
pick_le true x k l = l
pick_le false x k l = zero-le

module _ (v n : ℕ) (m : List ℕ) (ok : Passes (model_checks v n m)) where
  pub model_byte_is : (i : ℕ) → i < v + n → ByteOk v n m i
  unfolding Passes
  model_byte_is i l = (passes_at (byte_checks v n m) (v + n) ok.1 i l).0

  location : (i : ℕ) → i < v → get_or m i 0 ≤ n
  location i l = ⊎_elim (λ q. q) (λ q. absurd (omega (arith, q.0))) (model_byte_is i (omega arith))

  pub model_stack : Stack v n (stack_in v m)
  unfolding stack_in
  model_stack = record { nil = refl; low = low'; past = past' }
    where
      at : (i : ℕ) → Dec (i < v) → pick (ltb i v) (get_or m i 0) 0 ≤ n
      at i (yes l) = pick_le (ltb i v) (get_or m i 0) n (location i l)
      at i (no l) = rw (le-ltb i v (omega arith)) zero-le

      low' : (x : ℕ) → stack_in v m x ≤ n
      low' zero = zero-le
      low' (suc i) = at i (dec_lt i v)

      past' : (x : ℕ) → v < x → stack_in v m x ≡ 0
      past' zero l = refl
      past' (suc i) l = rw (le-ltb i v (omega arith))

  digit_le : (i : ℕ) → i < v + n → digit_of (get_or m i 0) ≤ suc n
  digit_le i l = go (eqb (get_or m i 0) 255) refl (model_byte_is i l)
    where
      go : (b : Bool) → b ≡ eqb (get_or m i 0) 255 → ByteOk v n m i → pick b 0 (suc (get_or m i 0)) ≤ suc n
      go true e q = zero-le
      go false e q = ⊎_elim (λ (w : get_or m i 0 ≤ n). omega arith) (λ w. absurd (never (e ∙ eq-eqb (get_or m i 0) 255 w.1))) q
        where
          never : false ≡ true → ⊥
          never z = let y : ◌≡◌ {A = ℕ} 0 1 = cc in omega arith

  pub model_heap_is : Heap n (heap_in v n m)
  unfolding heap_in
  model_heap_is = record { nil = refl; past = past'; low = low' }
    where
      at : (i : ℕ) → Dec (i < n) → pick (ltb i n) (digit_of (get_or m (v + i) 0)) 0 ≤ suc n
      at i (yes l) = pick_le (ltb i n) (digit_of (get_or m (v + i) 0)) (suc n) (digit_le (v + i) (omega arith))
      at i (no l) = rw (le-ltb i n (omega arith)) zero-le

      past' : (ℓ : ℕ) → n < ℓ → heap_in v n m ℓ ≡ 0
      past' zero l = refl
      past' (suc i) l = rw (le-ltb i n (omega arith))

      low' : (ℓ : ℕ) → heap_in v n m ℓ ≤ suc n
      low' zero = zero-le
      low' (suc i) = at i (dec_lt i n)

-- whether a stack and a heap in range fit is worked out
pub fits_is : (π : Profile) (v n p : ℕ) (F : Form) (s h : Map) → ((x : ℕ) → s x ≤ n) → Heap n h → Is (fits π v n p F s h) (Fits π v n p F s h)
fits_is π v n p F s h low k = is_and (truth π v n F s h) (short n p h) (truth_holds π v n s low F h k) (is_short n p h k)

-- and so is whether a model in range fits
pub is_fits : (π : Profile) (s m : List ℕ) → Passes (model_checks (vars_of s) (locs_of s) m) → Is (fits_book π s m) (FitsBook π s m)
unfolding fits_book
is_fits π s m ok =
    fits_is π (vars_of s) (locs_of s) (path_of s) (book_formula s) (stack_in (vars_of s) m) (heap_in (vars_of s) (locs_of s) m)
    (model_stack (vars_of s) (locs_of s) m ok).low (model_heap_is (vars_of s) (locs_of s) m ok)

pub verdict_single : (P : Type 0) → Single (Verdict P)
verdict_single P a b p q =
    ⊎_elim (λ x. ⊎_elim (λ y. x.1 ∙ sym y.1) (λ y. absurd (y.0 x.0)) q)
    (λ x. ⊎_elim (λ y. absurd (x.0 y.0)) (λ y. x.1 ∙ sym y.1) q) p

pub verdict_zero : (P : Type 0) (a : Answer) → Verdict P a → a.number ≡ 0 → P
verdict_zero P a q e = ⊎_elim (λ x. x.0) (λ x. let z : ◌≡◌ {A = ℕ} 1 0 = ap (λ (r : Answer). r.number) (sym x.1) ∙ e in absurd (omega arith)) q

-- no refusal of a model has number 0
pub model_refuses : (v n : ℕ) (m : List ℕ) → Refuses (model_checks v n m)
unfolding Refuses
model_refuses v n m = (omega arith, refuses_upto (byte_checks v n m) (λ i. (omega arith, tt)) (v + n))

-- two answers that the judge's statement allows are equal
pub judges_single : (π : Profile) (s m : List ℕ) → Single (Judges π s m)
unfolding Judges
judges_single π s m = answers_single (judge_checks s m) (Verdict (FitsBook π s m)) (verdict_single (FitsBook π s m))
