-- The bytes of an assignment in range are in range, and the assignment in them is that assignment. Assumes nothing.
use Rattle.std.specs.Prelude.{◌≡◌, refl, Bool, true, false, eqb, ltb, get_or}
use Rattle.std.proofs.Math.Path.{sym, fun_ext}
use Rattle.std.proofs.Common.{subst, ◌∙◌, ap, ap₂, inl, inr, arith, lt-ltb, le-ltb}
use Prim.Native.Nat.{ℕ, zero, suc, ◌+◌, ◌-◌, ◌*◌, ◌/◌, ◌%◌, ◌^◌, ◌<◌, ◌≤◌}
use Rattle.std.proofs.Math.Decide.{dec_lt}
use Rattle.std.proofs.Math.Arith.{digits_div, digits_mod}
use Rattle.logic.specs.Checks.{upto, Passes}
use Rattle.logic.proofs.CheckLaws.{passes_none, passes_more}
use Rattle.logic.specs.Tests.{andb, pick, in_part}
use Rattle.logic.specs.Model.{stack_in}
use Rattle.logic.proofs.Digits.{num_of_lt, digit_num}
use Rattle.cells.specs.Sets.{in_past}
use Rattle.rows.specs.Assignment.{Set, Assignment, ValuesInRange}
use Rattle.rows.specs.Symbols.{Agree}
use Rattle.rows.specs.Assigned.{array_in, set_in, assigned, ValueOk, value_checks, assignment_checks}
use Rattle.arrays.specs.UnpackLaws.{rows_fit}
use Rattle.solutions.proofs.ModelOfLaws.{list_long, list_at}
use Rattle.solutions.specs.BytesOf.{set_byte, byte_of, bytes_of}

bit_lt : (b : Bool) → pick b 1 0 < 2
bit_lt true = omega arith
bit_lt false = omega arith

bit_is : (b : Bool) → eqb (pick b 1 0) 1 ≡ b
bit_is true = refl
bit_is false = refl

set_byte_lt : (n : ℕ) (S : Set) → set_byte n S < 2 ^ n
set_byte_lt n S = num_of_lt 2 n (λ i. pick (S (suc i)) 1 0) (λ i. bit_lt (S (suc i)))

-- a set's byte has its members
set_byte_is : (n : ℕ) (S : Set) → S 0 ≡ false → ((ℓ : ℕ) → n < ℓ → S ℓ ≡ false) → in_part (set_byte n S) ≡ S
unfolding in_part
set_byte_is n S z p = fun_ext λ ℓ. go ℓ
  where
    at : (i : ℕ) → Dec (i < n) → in_part (set_byte n S) (suc i) ≡ S (suc i)
    at i (yes l) = ap (λ (x : ℕ). eqb x 1) (digit_num 2 n (λ j. pick (S (suc j)) 1 0) (λ j. bit_lt (S (suc j))) i l) ∙ bit_is (S (suc i))
    at i (no l) = in_past n (set_byte n S) (suc i) (set_byte_lt n S) (omega arith) ∙ sym (p (suc i) (omega arith))

    go : (ℓ : ℕ) → in_part (set_byte n S) ℓ ≡ S ℓ
    go zero = sym z
    go (suc i) = at i (dec_lt i n)

module _ (v n a b : ℕ) (ν : Assignment) (k : ValuesInRange v n ν) where
  byte_at : (i : ℕ) → i < v + a * n + b → get_or (bytes_of v n a b ν) i 0 ≡ byte_of v n a ν i
  unfolding bytes_of
  byte_at i l = list_at (v + a * n + b) (byte_of v n a ν) i l

  stack_byte : (i : ℕ) → i < v → get_or (bytes_of v n a b ν) i 0 ≡ ν.stack (suc i)
  stack_byte i l = byte_at i (omega arith) ∙ rw (lt-ltb i v l)

  value_byte : (i j : ℕ) → i < a → j < n → get_or (bytes_of v n a b ν) (v + i * n + j) 0 ≡ ν.array i (suc j)
  value_byte i j l m =
      let f = rows_fit i n a l in
      let z : v + i * n + j - v ≡ i * n + j = omega arith in
      byte_at (v + i * n + j) (omega arith)
      ∙ rw (le-ltb (v + i * n + j) v (omega arith), lt-ltb (v + i * n + j) (v + a * n) (omega arith), z)
      (ap₂ (λ (x y : ℕ). ν.array x (suc y)) (digits_div i m) (digits_mod i m))

  set_at : (j : ℕ) → j < b → get_or (bytes_of v n a b ν) (v + a * n + j) 0 ≡ set_byte n (ν.set j)
  set_at j l =
      let z : v + a * n + j - (v + a * n) ≡ j = omega arith in
      byte_at (v + a * n + j) (omega arith) ∙ rw (le-ltb (v + a * n + j) v (omega arith), le-ltb (v + a * n + j) (v + a * n) (omega arith), z)

  pub bytes_agree : Agree a b ν (assigned v n a (bytes_of v n a b ν))
  unfolding stack_in array_in
  bytes_agree = record { stack = fun_ext λ x. sym (stack' x); array = λ i l. fun_ext λ ℓ. sym (array' i l ℓ); set = λ j l. sym (set' j l) }
    where
      var : (i : ℕ) → Dec (i < v) → pick (ltb i v) (get_or (bytes_of v n a b ν) i 0) 0 ≡ ν.stack (suc i)
      var i (yes l) = rw (lt-ltb i v l) (stack_byte i l)
      var i (no l) = rw (le-ltb i v (omega arith)) (sym (k.stack.past (suc i) (omega arith)))

      stack' : (x : ℕ) → stack_in v (bytes_of v n a b ν) x ≡ ν.stack x
      stack' zero = sym k.stack.nil
      stack' (suc i) = var i (dec_lt i v)

      value : (i j : ℕ) → i < a → Dec (j < n) → pick (andb (ltb i a) (ltb j n)) (get_or (bytes_of v n a b ν) (v + i * n + j) 0) 0 ≡ ν.array i (suc j)
      value i j l (yes m) = rw (lt-ltb i a l, lt-ltb j n m) (value_byte i j l m)
      value i j l (no m) = rw (lt-ltb i a l, le-ltb j n (omega arith)) (sym (k.alone i (suc j) (inr (omega arith))))

      array' : (i : ℕ) → i < a → (ℓ : ℕ) → array_in v n a (bytes_of v n a b ν) i ℓ ≡ ν.array i ℓ
      array' i l zero = sym (k.alone i 0 (inl refl))
      array' i l (suc j) = value i j l (dec_lt j n)

      set' : (j : ℕ) → j < b → set_in v n a (bytes_of v n a b ν) j ≡ ν.set j
      set' j l = ap in_part (set_at j l) ∙ set_byte_is n (ν.set j) (k.nil j) (k.past j)

  pub bytes_pass : Passes (assignment_checks v n a b (bytes_of v n a b ν))
  unfolding Passes bytes_of
  bytes_pass = (list_long (v + a * n + b) (byte_of v n a ν), up (v + a * n + b) (λ i l. ok i l (dec_lt i v) (dec_lt i (v + a * n))))
    where
      up : (m : ℕ) → ((i : ℕ) → i < m → ValueOk v n a (bytes_of v n a b ν) i) → Passes (upto (value_checks v n a (bytes_of v n a b ν)) m)
      up zero g = passes_none (value_checks v n a (bytes_of v n a b ν))
      up (suc m) g = passes_more (value_checks v n a (bytes_of v n a b ν)) m (up m (λ i l. g i (omega arith))) (g m (omega arith), tt)

      ok : (i : ℕ) → i < v + a * n + b → Dec (i < v) → Dec (i < v + a * n) → ValueOk v n a (bytes_of v n a b ν) i
      ok i l (yes d) e = inl (omega arith, subst (λ (x : ℕ). x ≤ n) (sym (stack_byte i d)) (k.stack.low (suc i)))
      ok i l (no d) (yes e) = inl (e, subst (λ (x : ℕ). x ≤ n) (sym (byte_at i l ∙ rw (le-ltb i v (omega arith), lt-ltb i (v + a * n) e))) (k.low ((i - v) / n) (suc ((i - v) % n))))
      ok i l (no d) (no e) =
          inr (omega arith, subst (λ (x : ℕ). x < 2 ^ n) (sym (byte_at i l ∙ rw (le-ltb i v (omega arith), le-ltb i (v + a * n) (omega arith)))) (set_byte_lt n (ν.set (i - (v + a * n)))))
