-- The digits of a number: where they are 0, one digit in its place, and what the bit operations do to them. Assumes nothing.
use Rattle.std.specs.Prelude.{◌≡◌, refl, eqb}
use Rattle.std.proofs.Common.{sym, subst, ◌∙◌, ap₂, not-suc-le-zero, le_of_suc-le-suc, div-one, div-add-mod', div-lt_iff_lt-mul, mod-eq_of_lt, mul-div_cancel, mul_assoc, mul-one, suc-add, zero-add, add-mul, pow-add, eq-eqb, ne_eqb}
use Rattle.std.proofs.Math.Path.{ap}
use Prim.Native.Nat.{ℕ, zero, suc, ◌+◌, ◌*◌, ◌/◌, ◌%◌, ◌^◌, ◌<◌, ◌≤◌}
use Rattle.std.proofs.Math.Nat.{pow-suc, pow-succ', pow-zero, zero-div, div-div-eq-div-mul, div-eq_of_lt, mul-mod_left}
use Rattle.std.proofs.Math.Decide.{ℕ_discrete}
use native.Mathlib.Omega.{arith}
use Rattle.std.proofs.Math.Arith.{lt-one, digits_div, digits_mod}
use Rattle.std.specs.Int.Bits.{bit_and, bit_or, bit_xor, and_mod, or_mod, xor_mod}
use Rattle.std.proofs.lemmas.Nat.{and_shr, or_shr, xor_shr}
use Rattle.logic.specs.Tests.{digit, pick}

pub digit_zero : (b i : ℕ) → 0 < b → digit b 0 i ≡ 0
unfolding digit
digit_zero b zero l = mod-eq_of_lt l
digit_zero b (suc i) l = rw zero-div (digit_zero b i l)

pub digit_past : (b k w i : ℕ) → 0 < b → w < b ^ k → k ≤ i → digit b w i ≡ 0
unfolding digit
digit_past b zero w i l h e = rw (lt-one (rw pow-zero at h)) (digit_zero b i l)
digit_past b (suc k) w zero l h e = absurd (not-suc-le-zero e)
digit_past b (suc k) w (suc i) l h e = digit_past b k (w / b) i l ((div-lt_iff_lt-mul l).1 (rw pow-suc at h)) (le_of_suc-le-suc e)

-- two numbers with the same digits are the same
pub same_digits : (b k v w : ℕ) → 0 < b → v < b ^ k → w < b ^ k → ((i : ℕ) → i < k → digit b v i ≡ digit b w i) → v ≡ w
unfolding digit
same_digits b zero v w l p q e = lt-one (rw pow-zero at p) ∙ sym (lt-one (rw pow-zero at q))
same_digits b (suc k) v w l p q e =
    sym (div-add-mod' v b)
    ∙ ap₂ (λ (x y : ℕ). x * b + y) (same_digits b k (v / b) (w / b) l ((div-lt_iff_lt-mul l).1 (rw pow-suc at p)) ((div-lt_iff_lt-mul l).1 (rw pow-suc at q)) (λ i h. e (suc i) (omega arith))) (e 0 (omega arith))
    ∙ div-add-mod' w b

-- a digit, as code works it out
pub digit_is : (b w i : ℕ) → w / b ^ i % b ≡ digit b w i
unfolding digit
digit_is b w zero = rw (pow-zero, div-one)
digit_is b w (suc i) = rw (pow-succ', ← (div-div-eq-div-mul w b (b ^ i))) (digit_is b (w / b) i)

-- the digits of a number that is moved down by j digits
pub digit_shr : (b w j i : ℕ) → digit b (w / b ^ j) i ≡ digit b w (j + i)
unfolding digit
digit_shr b w zero i = rw (pow-zero, div-one, zero-add)
digit_shr b w (suc j) i = rw (pow-succ', ← (div-div-eq-div-mul w b (b ^ j)), suc-add) (digit_shr b (w / b) j i)

placed_at : (b d x : ℕ) → d < b → digit b (d * b ^ x) x ≡ d
unfolding digit
placed_at b d zero l = rw (pow-zero, mul-one) (mod-eq_of_lt l)
placed_at b d (suc x) l =
    rw (pow-suc, ← (mul_assoc d (b ^ x) b), mul-div_cancel (d * b ^ x) {n = b} (omega arith)) (placed_at b d x l)

placed_off : (b d x i : ℕ) → d < b → ¬ (i ≡ x) → digit b (d * b ^ x) i ≡ 0
unfolding digit
placed_off b d zero zero l n = absurd (n refl)
placed_off b d zero (suc i) l n = rw (pow-zero, mul-one, div-eq_of_lt l) (digit_zero b i (omega arith))
placed_off b d (suc x) zero l n = rw (pow-suc, ← (mul_assoc d (b ^ x) b)) (mul-mod_left (d * b ^ x) b)
placed_off b d (suc x) (suc i) l n =
    rw (pow-suc, ← (mul_assoc d (b ^ x) b), mul-div_cancel (d * b ^ x) {n = b} (omega arith)) (placed_off b d x i l (λ (e : i ≡ x). n (ap suc e)))

-- one digit in its place, and 0 in the others
pub digit_placed : (b d x i : ℕ) → d < b → digit b (d * b ^ x) i ≡ pick (eqb i x) d 0
digit_placed b d x i l = go (ℕ_discrete i x)
  where
    go : Dec (i ≡ x) → digit b (d * b ^ x) i ≡ pick (eqb i x) d 0
    go (yes e) = rw (eq-eqb i x e, e) (placed_at b d x l)
    go (no n) = rw (ne_eqb i x n) (placed_off b d x i l n)

-- bytes are moved by eight bits
pub pow_bytes : (i : ℕ) → 2 ^ (8 * i) ≡ 256 ^ i
pow_bytes zero = refl
pow_bytes (suc i) = ap (λ (x : ℕ). 2 ^ x) (omega arith) ∙ pow-add 2 8 (8 * i) ∙ ap (λ (x : ℕ). 256 * x) (pow_bytes i) ∙ sym (pow-succ' 256 i)

-- the bit operations go digit by digit, in a base that is a power of 2
module _ (k : ℕ) where
  pub digit_and : (a b i : ℕ) → digit (2 ^ k) (bit_and a b) i ≡ bit_and (digit (2 ^ k) a i) (digit (2 ^ k) b i)
  unfolding digit
  digit_and a b zero = and_mod a b k
  digit_and a b (suc i) = ap (λ (q : ℕ). digit (2 ^ k) q i) (and_shr a b k) ∙ digit_and (a / 2 ^ k) (b / 2 ^ k) i

  pub digit_or : (a b i : ℕ) → digit (2 ^ k) (bit_or a b) i ≡ bit_or (digit (2 ^ k) a i) (digit (2 ^ k) b i)
  unfolding digit
  digit_or a b zero = or_mod a b k
  digit_or a b (suc i) = ap (λ (q : ℕ). digit (2 ^ k) q i) (or_shr a b k) ∙ digit_or (a / 2 ^ k) (b / 2 ^ k) i

  pub digit_xor : (a b i : ℕ) → digit (2 ^ k) (bit_xor a b) i ≡ bit_xor (digit (2 ^ k) a i) (digit (2 ^ k) b i)
  unfolding digit
  digit_xor a b zero = xor_mod a b k
  digit_xor a b (suc i) = ap (λ (q : ℕ). digit (2 ^ k) q i) (xor_shr a b k) ∙ digit_xor (a / 2 ^ k) (b / 2 ^ k) i

-- where no digit overflows, a sum goes digit by digit
module _ (b : ℕ) where
  sum_low : (x y : ℕ) → x % b + y % b < b → ((x + y) % b ≡ x % b + y % b) × ((x + y) / b ≡ x / b + y / b)
  sum_low x y l =
      let e : x + y ≡ (x / b + y / b) * b + (x % b + y % b) = ap₂ (λ (p q : ℕ). p + q) (sym (div-add-mod' x b)) (sym (div-add-mod' y b)) ∙ regroup (x / b) (x % b) (y / b) (y % b) in
      (ap (λ (q : ℕ). q % b) e ∙ digits_mod (x / b + y / b) l, ap (λ (q : ℕ). q / b) e ∙ digits_div (x / b + y / b) l)
    where
      regroup : (p q r s : ℕ) → p * b + q + (r * b + s) ≡ (p + r) * b + (q + s)
      regroup p q r s = rw (add-mul p r b) (omega arith)

  pub digit_sum : (x y : ℕ) → ((i : ℕ) → digit b x i + digit b y i < b) → (i : ℕ) → digit b (x + y) i ≡ digit b x i + digit b y i
  unfolding digit
  digit_sum x y h zero = (sum_low x y (h 0)).0
  digit_sum x y h (suc i) = ap (λ (q : ℕ). digit b q i) (sum_low x y (h 0)).1 ∙ digit_sum (x / b) (y / b) (λ j. h (suc j)) i

  pub sum_lt : (k x y : ℕ) → x < b ^ k → y < b ^ k → ((i : ℕ) → digit b x i + digit b y i < b) → x + y < b ^ k
  unfolding digit
  sum_lt zero x y p q h = rw (lt-one (rw pow-zero at p), lt-one (rw pow-zero at q)) (rw pow-zero (omega arith))
  sum_lt (suc k) x y p q h =
      let l : 0 < b = positive (h 0) in
      rw pow-suc ((div-lt_iff_lt-mul l).0 (subst (λ (z : ℕ). z < b ^ k) (sym (sum_low x y (h 0)).1)
      (sum_lt k (x / b) (y / b) ((div-lt_iff_lt-mul l).1 (rw pow-suc at p)) ((div-lt_iff_lt-mul l).1 (rw pow-suc at q)) (λ j. h (suc j)))))
    where
      positive : {z : ℕ} → z < b → 0 < b
      positive m = omega arith
