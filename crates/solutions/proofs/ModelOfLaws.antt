-- The model of an assignment, as bytes, is in range and has the assignment's stack, and its array 0 on its set 0. Assumes nothing.
use Rattle.std.specs.Prelude.{◌≡◌, Bool, List, ◌⊎◌, ltb, length}
use Rattle.std.proofs.Math.Path.{refl, sym, subst, ap, fun_ext}
use Rattle.std.proofs.Common.{◌∙◌, not-suc-le-zero, le_of_suc-le-suc}
use Rattle.std.proofs.Math.Bool.{true, false}
use Rattle.std.proofs.Math.Logic.{inl, inr, ⊎_elim}
use Prim.Native.Nat.{ℕ, zero, suc, ◌+◌, ◌-◌, ◌*◌, ◌<◌, ◌≤◌}
use Rattle.std.proofs.Math.Decide.{dec_lt}
use native.Mathlib.Omega.{arith}
use Rattle.std.proofs.Math.ListN.{get_or}
use borrow.Author.Tests.{lt-ltb, le-ltb, ne_eqb}
use Rattle.logic.specs.Checks.{upto, Passes}
use Rattle.logic.proofs.CheckLaws.{passes_none, passes_more}
use Rattle.logic.specs.Tests.{pick}
use Rattle.logic.specs.Model.{stack_in, heap_in, digit_of, ByteOk, byte_checks, model_checks}
use Rattle.rows.specs.Assignment.{ValuesInRange, on}
use Rattle.rows.proofs.OnSet.{on_other, on_member}
use Rattle.rows.specs.Assigned.{array_in, set_in, assigned}
use Rattle.solutions.specs.ModelOf.{list_of, model_byte, model_of}

pub list_long : (k : ℕ) (f : ℕ → ℕ) → length (list_of k f) ≡ k
unfolding list_of
list_long zero f = refl
list_long (suc k) f = ap suc (list_long k (λ i. f (suc i)))

pub list_at : (k : ℕ) (f : ℕ → ℕ) (i : ℕ) → i < k → get_or (list_of k f) i 0 ≡ f i
unfolding list_of
list_at zero f i l = absurd (not-suc-le-zero l)
list_at (suc k) f zero l = refl
list_at (suc k) f (suc i) l = list_at k (λ j. f (suc j)) i (le_of_suc-le-suc l)

pub passes_each : (v n : ℕ) (m : List ℕ) → length m ≡ v + n → ((i : ℕ) → i < v + n → ByteOk v n m i) → Passes (model_checks v n m)
unfolding Passes
passes_each v n m e f = (e, up (v + n) f)
  where
    up : (k : ℕ) → ((i : ℕ) → i < k → ByteOk v n m i) → Passes (upto (byte_checks v n m) k)
    up zero g = passes_none (byte_checks v n m)
    up (suc k) g = passes_more (byte_checks v n m) k (up k (λ i l. g i (omega arith))) (g k (omega arith), tt)

module _ (v n a : ℕ) (q : List ℕ) (k : ValuesInRange v n (assigned v n a q)) (few : n < 255) (some : 0 < a) where
  byte_of : (i : ℕ) → i < v + n → get_or (model_of v n a q) i 0 ≡ model_byte v n a q i
  unfolding model_of
  byte_of i l = list_at (v + n) (model_byte v n a q) i l

  stack_byte : (i : ℕ) → i < v → get_or (model_of v n a q) i 0 ≡ get_or q i 0
  stack_byte i l = byte_of i (omega arith) ∙ rw (lt-ltb i v l)

  cell_byte : (j : ℕ) → j < n → get_or (model_of v n a q) (v + j) 0 ≡ pick (set_in v n a q 0 (suc j)) (get_or q (v + j) 0) 255
  cell_byte j l =
      let z : v + j - v ≡ j = omega arith in
      byte_of (v + j) (omega arith) ∙ rw (le-ltb (v + j) v (omega arith), z)

  pub model_of_stack : stack_in v (model_of v n a q) ≡ stack_in v q
  unfolding stack_in
  model_of_stack = fun_ext λ x. go x
    where
      at : (i : ℕ) → Dec (i < v) → pick (ltb i v) (get_or (model_of v n a q) i 0) 0 ≡ pick (ltb i v) (get_or q i 0) 0
      at i (yes l) = ap (λ (x : ℕ). pick (ltb i v) x 0) (stack_byte i l)
      at i (no l) = rw (le-ltb i v (omega arith))

      go : (x : ℕ) → stack_in v (model_of v n a q) x ≡ stack_in v q x
      go zero = refl
      go (suc i) = at i (dec_lt i v)

  -- array 0's value at a location is the byte there
  value_byte : (j : ℕ) → j < n → array_in v n a q 0 (suc j) ≡ get_or q (v + j) 0
  unfolding array_in
  value_byte j l = let z : v + 0 * n + j ≡ v + j = omega arith in rw (lt-ltb 0 a some, lt-ltb j n l, z)

  digit_of_is : (x : ℕ) → x ≤ n → digit_of x ≡ suc x
  digit_of_is x l = rw (ne_eqb x 255 (λ e. omega arith))

  pub model_of_heap : heap_in v n (model_of v n a q) ≡ on (array_in v n a q 0) (set_in v n a q 0)
  unfolding heap_in
  model_of_heap = fun_ext λ ℓ. go ℓ
    where
      cell : (j : ℕ) → j < n → (b : Bool) → set_in v n a q 0 (suc j) ≡ b → digit_of (pick b (get_or q (v + j) 0) 255) ≡ on (array_in v n a q 0) (set_in v n a q 0) (suc j)
      cell j l true e =
          let w = value_byte j l in
          let low : get_or q (v + j) 0 ≤ n = omega (arith, w, k.low 0 (suc j)) in
          digit_of_is (get_or q (v + j) 0) low ∙ ap suc (sym w) ∙ sym (on_member (array_in v n a q 0) (set_in v n a q 0) (suc j) e)
      cell j l false e = sym (on_other (array_in v n a q 0) (set_in v n a q 0) (suc j) e)

      at : (j : ℕ) → Dec (j < n) → pick (ltb j n) (digit_of (get_or (model_of v n a q) (v + j) 0)) 0 ≡ on (array_in v n a q 0) (set_in v n a q 0) (suc j)
      at j (yes l) = rw (lt-ltb j n l) (ap digit_of (cell_byte j l) ∙ cell j l (set_in v n a q 0 (suc j)) refl)
      at j (no l) = rw (le-ltb j n (omega arith)) (sym (on_other (array_in v n a q 0) (set_in v n a q 0) (suc j) (k.past 0 (suc j) (omega arith))))

      go : (ℓ : ℕ) → heap_in v n (model_of v n a q) ℓ ≡ on (array_in v n a q 0) (set_in v n a q 0) ℓ
      go zero = sym (on_other (array_in v n a q 0) (set_in v n a q 0) 0 (k.nil 0))
      go (suc j) = at j (dec_lt j n)

  pub model_of_passes : Passes (model_checks v n (model_of v n a q))
  unfolding model_of
  model_of_passes = passes_each v n (model_of v n a q) (list_long (v + n) (model_byte v n a q)) (λ i l. at i l (dec_lt i v))
    where
      cell : (j : ℕ) → j < n → (b : Bool) → set_in v n a q 0 (suc j) ≡ b → (pick b (get_or q (v + j) 0) 255 ≤ n) ⊎ (pick b (get_or q (v + j) 0) 255 ≡ 255)
      cell j l true e = inl (omega (arith, value_byte j l, k.low 0 (suc j)))
      cell j l false e = inr refl

      at : (i : ℕ) → i < v + n → Dec (i < v) → ByteOk v n (model_of v n a q) i
      at i l (yes m) = inl (subst (λ (x : ℕ). x ≤ n) (sym (stack_byte i m)) (stack_low i m))
        where
          stack_low : (i : ℕ) → i < v → get_or q i 0 ≤ n
          stack_low i m = unfold stack_in in subst (λ (x : ℕ). x ≤ n) (rw (lt-ltb i v m)) (k.stack.low (suc i))
      at i l (no m) =
          let j = i - v in
          let e : v + j ≡ i = omega arith in
          let b = cell_byte j (omega arith) in
          ⊎_elim (λ w. inl (subst (λ (x : ℕ). get_or (model_of v n a q) x 0 ≤ n) e (subst (λ (x : ℕ). x ≤ n) (sym b) w)))
          (λ w. inr (omega arith, ap (λ (x : ℕ). get_or (model_of v n a q) x 0) (sym e) ∙ b ∙ w)) (cell j (omega arith) (set_in v n a q 0 (suc j)) refl)
