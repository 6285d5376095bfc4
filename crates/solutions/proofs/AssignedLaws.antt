-- An assignment whose bytes are in range is in range, and the judge's statement allows one answer. Assumes nothing.
use Rattle.std.specs.Prelude.{◌≡◌, Bool, List, ◌⊎◌, length, get_or}
use Rattle.std.proofs.Math.Path.{refl}
use Rattle.std.proofs.Common.{◌∙◌, ap, le_of_suc-le-suc, arith}
use Rattle.std.proofs.Math.Bool.{true, false}
use Rattle.std.proofs.Math.Logic.{⊎_elim}
use Prim.Native.Nat.{ℕ, zero, suc, zero-le, ◌+◌, ◌*◌, ◌^◌, ◌<◌, ◌≤◌}
use Rattle.std.proofs.Math.Decide.{dec_lt}
use Rattle.std.proofs.Math.Dec.{ltb}
use Rattle.std.proofs.Math.ListN.{get_or-eq_default}
use borrow.Author.Tests.{lt-ltb, le-ltb}
use Rattle.logic.specs.declared.Profile.{Profile}
use Rattle.logic.specs.Checks.{Passes}
use Rattle.logic.specs.CheckLaws.{Single}
use Rattle.logic.proofs.CheckLaws.{passes_at, answers_single}
use Rattle.logic.specs.Reflect.{Is}
use Rattle.logic.specs.Tests.{andb, pick, in_part}
use Rattle.logic.specs.Model.{stack_in, Verdict}
use Rattle.logic.proofs.ModelLaws.{verdict_single}
use Rattle.cells.specs.Sets.{in_past, in_nothing}
use Rattle.rows.specs.Assignment.{ValuesInRange}
use Rattle.rows.specs.Assigned.{array_in, set_in, assigned, ValueOk, value_checks, assignment_checks, SatisfiesBook, assign_checks, Assigns}
use Rattle.arrays.specs.UnpackLaws.{rows_fit}

-- two answers that the statement allows are equal
pub assigns_single : (π : Profile) (s q : List ℕ) → Single (Assigns π s q)
unfolding Assigns
assigns_single π s q = answers_single (assign_checks s q) (Verdict (SatisfiesBook π s q)) (verdict_single (SatisfiesBook π s q))

-- a byte's test, as code works it out
pub value_test : (v n a : ℕ) (q : List ℕ) (base end i : ℕ) (r : Bool) → base ≡ v + a * n → end ≡ 2 ^ n → Is r (((i < base) × (get_or q i 0 ≤ n)) ⊎ ((base ≤ i) × (get_or q i 0 < end))) → Is r (ValueOk v n a q i)
value_test v n a q base end i r e f t = rw (← e, ← f) t

module _ (v n a b : ℕ) (q : List ℕ) (ok : Passes (assignment_checks v n a b q)) where
  pub assignment_long : length q ≡ v + a * n + b
  unfolding Passes
  assignment_long = ok.0

  byte : (i : ℕ) → i < v + a * n + b → ValueOk v n a q i
  unfolding Passes
  byte i l = (passes_at (value_checks v n a q) (v + a * n + b) ok.1 i l).0

  value_low : (i : ℕ) → i < v + a * n → get_or q i 0 ≤ n
  value_low i l = ⊎_elim (λ z. z.1) (λ z. absurd (omega (arith, z.0))) (byte i (omega arith))

  pub set_low : (j : ℕ) → j < b → get_or q (v + a * n + j) 0 < 2 ^ n
  set_low j l = ⊎_elim (λ z. absurd (omega (arith, z.0))) (λ z. z.1) (byte (v + a * n + j) (omega arith))

  stack_low : (x : ℕ) → stack_in v q x ≤ n
  unfolding stack_in
  stack_low zero = zero-le
  stack_low (suc i) = go (dec_lt i v)
    where
      go : Dec (i < v) → pick (ltb i v) (get_or q i 0) 0 ≤ n
      go (yes l) = rw (lt-ltb i v l) (value_low i (omega arith))
      go (no l) = rw (le-ltb i v (omega arith)) zero-le

  stack_past : (x : ℕ) → v < x → stack_in v q x ≡ 0
  unfolding stack_in
  stack_past zero l = refl
  stack_past (suc i) l = rw (le-ltb i v (omega arith))

  array_low : (i ℓ : ℕ) → array_in v n a q i ℓ ≤ n
  unfolding array_in
  array_low i zero = zero-le
  array_low i (suc j) = go (dec_lt i a) (dec_lt j n)
    where
      go : Dec (i < a) → Dec (j < n) → pick (andb (ltb i a) (ltb j n)) (get_or q (v + i * n + j) 0) 0 ≤ n
      go (no l) m = rw (le-ltb i a (omega arith)) zero-le
      go (yes l) (no m) = rw (lt-ltb i a l, le-ltb j n (omega arith)) zero-le
      go (yes l) (yes m) = rw (lt-ltb i a l, lt-ltb j n m) (value_low (v + i * n + j) (omega (arith, rows_fit i n a l)))

  array_alone : (i ℓ : ℕ) → (ℓ ≡ 0) ⊎ (n < ℓ) → array_in v n a q i ℓ ≡ 0
  unfolding array_in
  array_alone i zero z = refl
  array_alone i (suc j) z = ⊎_elim (λ e. absurd (omega arith)) (λ l. none (ltb i a) (le-ltb j n (le_of_suc-le-suc l))) z
    where
      none : (t : Bool) → ltb j n ≡ false → pick (andb t (ltb j n)) (get_or q (v + i * n + j) 0) 0 ≡ 0
      none true e = rw e
      none false e = refl

  set_past : (j ℓ : ℕ) → n < ℓ → set_in v n a q j ℓ ≡ false
  set_past j ℓ m = go (dec_lt j b)
    where
      go : Dec (j < b) → in_part (get_or q (v + a * n + j) 0) ℓ ≡ false
      go (yes l) = in_past n (get_or q (v + a * n + j) 0) ℓ (set_low j l) m
      go (no l) = ap (λ (x : ℕ). in_part x ℓ) (get_or-eq_default q 0 {n = v + a * n + j} (omega (arith, assignment_long))) ∙ in_nothing ℓ

  pub assigned_in_range : ValuesInRange v n (assigned v n a q)
  unfolding stack_in in_part
  assigned_in_range =
      record {
        stack = record { nil = refl; low = stack_low; past = stack_past };
        low = array_low;
        alone = array_alone;
        nil = λ j. refl;
        past = set_past;
      }
