-- Whether all bytes of a number are small, as code works it out of all of them at once. Assumes nothing.
use Rattle.std.specs.Prelude.{◌≡◌, refl, true, ℕ, zero, suc, ◌+◌, ◌-◌, ◌*◌, ◌/◌, ◌<◌, ◌≤◌, eqb}
use Rattle.std.proofs.Common.{sym, ◌∙◌, lt_of_le_of_lt, arith}
use Rattle.std.proofs.Math.Decide.{dec_lt}
use Rattle.std.specs.Int.Bits.{bit_and}
use Rattle.std.proofs.lemmas.Nat.{and_le_r}
use Rattle.logic.specs.Tests.{all, digit}
use Rattle.logic.proofs.Digits.{digit_lt}
use Rattle.logic.specs.Reflect.{Is}
use Rattle.logic.proofs.Reflect.{is_eq, is_iff, is_all, is_self}
use Rattle.cells.specs.Cells.{most, word, cells}
use Rattle.cells.specs.Bits.{digit_zero, digit_past, digit_and, digit_sum, same_digits, sum_lt}
use Rattle.cells.specs.Taken.{bytes_all}
use Rattle.packing.specs.Packing.{AtMost}

-- a byte of 240, of 16 and of 1 for each location
abbrev highs : ℕ
highs = 17361641481138401520

abbrev sixteens : ℕ
sixteens = 1157442765409226768

abbrev ones : ℕ
ones = 72340172838076673

highs_at : (i : ℕ) → i < most → digit 256 highs i ≡ 240
unfolding all digit
highs_at = bytes_all highs 240 refl

sixteens_at : (i : ℕ) → i < most → digit 256 sixteens i ≡ 16
unfolding all digit
sixteens_at = bytes_all sixteens 16 refl

times_all : all 16 (λ d. all most (λ i. eqb (digit 256 (d * ones) i) d)) ≡ true
unfolding all digit
times_all = refl

times_at : (d : ℕ) → d < 16 → (i : ℕ) → i < most → digit 256 (d * ones) i ≡ d
times_at d l = bytes_all (d * ones) d ((is_all (λ d. all most (λ i. eqb (digit 256 (d * ones) i) d)) (λ d. all most (λ i. eqb (digit 256 (d * ones) i) d) ≡ true) 16 (λ d _. is_self (all most (λ i. eqb (digit 256 (d * ones) i) d)))).to times_all d l)

-- a number is 0 if all its bytes are
is_nothing : (x : ℕ) → x < word → Is (eqb x 0) ((i : ℕ) → i < most → digit 256 x i ≡ 0)
is_nothing x h =
    is_iff (is_eq x 0) (λ e i l. rw e (digit_zero 256 i (omega arith)))
    (λ q. same_digits 256 most x 0 (omega arith) h (omega arith) (λ i l. q i l ∙ sym (digit_zero 256 i (omega arith))))

-- what is left of a byte: its upper half, and bit 4 of a byte below 32
upper_all : all 256 (λ d. eqb (bit_and d 240) (16 * (d / 16))) ≡ true
unfolding all
upper_all = refl

upper : (d : ℕ) → d < 256 → bit_and d 240 ≡ 16 * (d / 16)
upper = (is_all (λ d. eqb (bit_and d 240) (16 * (d / 16))) (λ d. bit_and d 240 ≡ 16 * (d / 16)) 256 (λ d _. is_eq (bit_and d 240) (16 * (d / 16)))).to upper_all

fourth_all : all 32 (λ d. eqb (bit_and d 16) (16 * (d / 16))) ≡ true
unfolding all
fourth_all = refl

fourth : (d : ℕ) → d < 32 → bit_and d 16 ≡ 16 * (d / 16)
fourth = (is_all (λ d. eqb (bit_and d 16) (16 * (d / 16))) (λ d. bit_and d 16 ≡ 16 * (d / 16)) 32 (λ d _. is_eq (bit_and d 16) (16 * (d / 16)))).to fourth_all

module _ (w : ℕ) (h : w < word) where
  byte_past : (i : ℕ) → ¬ (i < most) → digit 256 w i ≡ 0
  byte_past i l = digit_past 256 most w i (omega arith) h (omega arith)

  is_low : Is (eqb (bit_and w highs) 0) ((i : ℕ) → i < most → digit 256 w i < 16)
  is_low =
      is_iff (is_nothing (bit_and w highs) (lt_of_le_of_lt (and_le_r w highs) (omega arith)))
      (λ q i l. omega (arith, sym (at i l) ∙ q i l)) (λ q i l. at i l ∙ omega (arith, q i l))
    where
      at : (i : ℕ) → i < most → digit 256 (bit_and w highs) i ≡ 16 * (digit 256 w i / 16)
      at i l = digit_and 8 w highs i ∙ rw (highs_at i l) (upper (digit 256 w i) (digit_lt 256 w i (omega arith)))

  pub low_bytes : bit_and w highs ≡ 0 → (i : ℕ) → i < most → digit 256 w i < 16
  low_bytes e = is_low.to ((is_eq (bit_and w highs) 0).from e)

  pub none_high : (k : ℕ) → k < 16 → AtMost w k → bit_and w highs ≡ 0
  unfolding cells
  none_high k f q = (is_eq (bit_and w highs) 0).to (is_low.from (λ i l. omega (arith, q (suc i))))

  module _ (k : ℕ) (f : k < 16) (low : (i : ℕ) → i < most → digit 256 w i < 16) where
    no_carry : (i : ℕ) → digit 256 w i + digit 256 ((15 - k) * ones) i < 256
    no_carry i = go (dec_lt i most)
      where
        go : Dec (i < most) → digit 256 w i + digit 256 ((15 - k) * ones) i < 256
        go (yes l) = omega (arith, low i l, times_at (15 - k) (omega arith) i l)
        go (no l) = omega (arith, byte_past i l, digit_lt 256 ((15 - k) * ones) i (omega arith))

    pub sum_fits : w + (15 - k) * ones < word
    sum_fits = sum_lt 256 most w ((15 - k) * ones) h (omega arith) no_carry

    pub is_at_most : Is (eqb (bit_and (w + (15 - k) * ones) sixteens) 0) (AtMost w k)
    unfolding cells
    is_at_most =
        is_iff (is_nothing (bit_and (w + (15 - k) * ones) sixteens) (lt_of_le_of_lt (and_le_r (w + (15 - k) * ones) sixteens) (omega arith))) to from
      where
        at : (i : ℕ) → i < most → digit 256 (bit_and (w + (15 - k) * ones) sixteens) i ≡ 16 * ((digit 256 w i + (15 - k)) / 16)
        at i l =
            digit_and 8 (w + (15 - k) * ones) sixteens i
            ∙ rw (sixteens_at i l, digit_sum 256 w ((15 - k) * ones) no_carry i, times_at (15 - k) (omega arith) i l) (fourth (digit 256 w i + (15 - k)) (omega (arith, low i l)))

        to : ((i : ℕ) → i < most → digit 256 (bit_and (w + (15 - k) * ones) sixteens) i ≡ 0) → (ℓ : ℕ) → cells w ℓ ≤ k
        to q zero = omega arith
        to q (suc i) = go (dec_lt i most)
          where
            go : Dec (i < most) → digit 256 w i ≤ k
            go (yes l) = omega (arith, low i l, sym (at i l) ∙ q i l)
            go (no l) = omega (arith, byte_past i l)

        from : ((ℓ : ℕ) → cells w ℓ ≤ k) → (i : ℕ) → i < most → digit 256 (bit_and (w + (15 - k) * ones) sixteens) i ≡ 0
        from q i l = at i l ∙ omega (arith, low i l, q (suc i))
