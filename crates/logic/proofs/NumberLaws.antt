-- Laws of numbers and their digits, in any base: a number is known by its digits, and its digits by the number. Assumes nothing.
use Rattle.std.specs.Prelude.{◌≡◌}
use Rattle.std.proofs.Math.Path.{refl, fun_ext}
use Rattle.std.proofs.Common.{sym, subst, ◌∙◌, ap, ap₂, not-suc-le-zero, le_of_suc-le-suc, pow-suc, div-lt_iff_lt-mul, div-add-mod', mul_assoc, mul-one, add-mul, zero-mul, arith, lt-ltb, le-ltb}
use Prim.Native.Nat.{ℕ, zero, suc, ◌+◌, ◌*◌, ◌/◌, ◌%◌, ◌^◌, ◌<◌}
use Rattle.std.proofs.Math.Nat.{pow-zero, mul-add-mod_self_right, mul-add-div_right}
use Rattle.std.proofs.Math.Decide.{dec_lt}
use Rattle.std.proofs.Math.Arith.{lt-one}
use Rattle.logic.specs.Heap.{Map}
use Rattle.logic.specs.Tests.{digit}
use Rattle.logic.specs.Digits.{num_of}
use Rattle.logic.proofs.Digits.{num_of_lt, digit_num, digit_lt}
use Rattle.logic.specs.Candidates.{InBase, value_of, digits_of}

-- numbers with the same digits are the same
pub num_of_same : (b k : ℕ) (d e : ℕ → ℕ) → ((i : ℕ) → i < k → d i ≡ e i) → num_of b k d ≡ num_of b k e
unfolding num_of
num_of_same b zero d e h = refl
num_of_same b (suc k) d e h =
    ap₂ (λ (x y : ℕ). x * b + y) (num_of_same b k (λ i. d (suc i)) (λ i. e (suc i)) (λ i l. h (suc i) (omega arith))) (h 0 (omega arith))

-- no digits, and no number
pub num_of_none : (b k : ℕ) (d : ℕ → ℕ) → ((i : ℕ) → d i ≡ 0) → num_of b k d ≡ 0
unfolding num_of
num_of_none b zero d h = refl
num_of_none b (suc k) d h = rw (num_of_none b k (λ i. d (suc i)) (λ i. h (suc i)), h 0) (omega (arith, zero-mul b))

-- a number is that of its digits
pub num_of_digits : (b k c : ℕ) → 0 < b → c < b ^ k → num_of b k (digit b c) ≡ c
unfolding num_of digit
num_of_digits b zero c p l = sym (lt-one (rw pow-zero at l))
num_of_digits b (suc k) c p l =
    ap (λ (x : ℕ). x * b + c % b) (num_of_digits b k (c / b) p ((div-lt_iff_lt-mul p).1 (rw pow-suc at l))) ∙ div-add-mod' c b

-- digits above do not show below
pub digit_low : (b k q r i : ℕ) → 0 < b → i < k → digit b (q * b ^ k + r) i ≡ digit b r i
unfolding digit
digit_low b zero q r i p l = absurd (not-suc-le-zero l)
digit_low b (suc k) q r zero p l = rw (pow-suc, ← (mul_assoc q (b ^ k) b)) (mul-add-mod_self_right (q * b ^ k) b r)
digit_low b (suc k) q r (suc i) p l =
    rw (pow-suc, ← (mul_assoc q (b ^ k) b), mul-add-div_right p (q * b ^ k) r) (digit_low b k q (r / b) i p (le_of_suc-le-suc l))

-- numbers that differ in one digit
pub num_of_changed : (b k i : ℕ) (d e : ℕ → ℕ) → i < k → ((j : ℕ) → ¬ (j ≡ i) → e j ≡ d j) → num_of b k e + d i * b ^ i ≡ num_of b k d + e i * b ^ i
unfolding num_of
num_of_changed b zero i d e l h = absurd (not-suc-le-zero l)
num_of_changed b (suc k) zero d e l h =
    let s : num_of b k (λ j. e (suc j)) ≡ num_of b k (λ j. d (suc j)) = num_of_same b k (λ j. e (suc j)) (λ j. d (suc j)) (λ j m. h (suc j) (λ (z : suc j ≡ 0). omega arith)) in
    let p : num_of b k (λ j. e (suc j)) * b ≡ num_of b k (λ j. d (suc j)) * b = ap (λ (x : ℕ). x * b) s in
    rw pow-zero (omega (arith, p, mul-one (d 0), mul-one (e 0)))
num_of_changed b (suc k) (suc i) d e l h =
    let s : num_of b k (λ j. e (suc j)) + d (suc i) * b ^ i ≡ num_of b k (λ j. d (suc j)) + e (suc i) * b ^ i = num_of_changed b k i (λ j. d (suc j)) (λ j. e (suc j)) (le_of_suc-le-suc l) (λ j n. h (suc j) (λ (z : suc j ≡ suc i). n (omega arith))) in
    let p = sym (add-mul (num_of b k (λ j. e (suc j))) (d (suc i) * b ^ i) b) ∙ ap (λ (x : ℕ). x * b) s ∙ add-mul (num_of b k (λ j. d (suc j))) (e (suc i) * b ^ i) b in
    let z = h 0 (λ (z : 0 ≡ suc i). omega arith) in
    rw (pow-suc, ← (mul_assoc (d (suc i)) (b ^ i) b), ← (mul_assoc (e (suc i)) (b ^ i) b)) (omega (arith, p, z))

-- ---- the digits for 1 to k

pub value_lt : (b k : ℕ) (m : Map) → InBase b k m → value_of b k m < b ^ k
value_lt b k m r = num_of_lt b k (λ i. m (suc i)) (λ i. r.low (suc i))

module _ (b k c : ℕ) where
  pub digits_at_is : (i : ℕ) → i < k → digits_of b k c (suc i) ≡ digit b c i
  unfolding digits_of
  digits_at_is i l = rw (lt-ltb i k l)

  pub digits_past : (i : ℕ) → k < i → digits_of b k c i ≡ 0
  unfolding digits_of
  digits_past zero l = refl
  digits_past (suc i) l = rw (le-ltb i k (omega arith))

  pub digits_nil : digits_of b k c 0 ≡ 0
  unfolding digits_of
  digits_nil = refl

  pub digits_in_base : 0 < b → InBase b k (digits_of b k c)
  digits_in_base p = record { nil = digits_nil; low = low'; past = digits_past }
    where
      at : (i : ℕ) → Dec (i < k) → digits_of b k c (suc i) < b
      at i (yes l) = subst (λ (x : ℕ). x < b) (sym (digits_at_is i l)) (digit_lt b c i p)
      at i (no l) = subst (λ (x : ℕ). x < b) (sym (digits_past (suc i) (omega arith))) p

      low' : (i : ℕ) → digits_of b k c i < b
      low' zero = subst (λ (x : ℕ). x < b) (sym digits_nil) p
      low' (suc i) = at i (dec_lt i k)

  pub value_digits : 0 < b → c < b ^ k → value_of b k (digits_of b k c) ≡ c
  value_digits p l = num_of_same b k (λ i. digits_of b k c (suc i)) (digit b c) digits_at_is ∙ num_of_digits b k c p l

-- maps with the same digits are the same
pub same_in_base : (b k : ℕ) (m w : Map) → InBase b k m → InBase b k w → ((i : ℕ) → i < k → m (suc i) ≡ w (suc i)) → m ≡ w
same_in_base b k m w r q e = fun_ext λ i. go i
  where
    at : (i : ℕ) → Dec (i < k) → m (suc i) ≡ w (suc i)
    at i (yes l) = e i l
    at i (no l) = r.past (suc i) (omega arith) ∙ sym (q.past (suc i) (omega arith))

    go : (i : ℕ) → m i ≡ w i
    go zero = r.nil ∙ sym q.nil
    go (suc i) = at i (dec_lt i k)

-- the digits of a number that has m's digits below
pub digits_value : (b k q : ℕ) (m : Map) → InBase b k m → digits_of b k (q * b ^ k + value_of b k m) ≡ m
digits_value b k q m r =
    same_in_base b k (digits_of b k (q * b ^ k + value_of b k m)) m (digits_in_base b k (q * b ^ k + value_of b k m) p) r
    (λ i l. digits_at_is b k (q * b ^ k + value_of b k m) i l ∙ digit_low b k q (value_of b k m) i p l ∙ digit_num b k (λ j. m (suc j)) (λ j. r.low (suc j)) i l)
  where
    p : 0 < b
    p = omega (arith, r.low 0)

-- only the digits below k count
pub digits_mod_pow : (b k c : ℕ) → 0 < b → digits_of b k c ≡ digits_of b k (c % b ^ k)
digits_mod_pow b k c p =
    same_in_base b k (digits_of b k c) (digits_of b k (c % b ^ k)) (digits_in_base b k c p) (digits_in_base b k (c % b ^ k) p)
    (λ i l. digits_at_is b k c i l ∙ sym (ap (λ (x : ℕ). digit b x i) (div-add-mod' c (b ^ k))) ∙ digit_low b k (c / b ^ k) (c % b ^ k) i p l ∙ sym (digits_at_is b k (c % b ^ k) i l))
