-- Laws of sets of locations: the members of meets, unions and differences, and equal sets. Assumes nothing.
use Rattle.std.specs.Prelude.{◌≡◌, refl, Bool, true, false, not, ℕ, zero, suc, ◌-◌, ◌/◌, ◌%◌, ◌^◌, ◌<◌, eqb}
use Rattle.std.proofs.Common.{sym, subst, ◌∙◌, ap, zero-le, not-suc-le-zero, pow-suc, le_of_suc-le-suc, lt_of_le_of_lt, lt_of_lt_of_le, div-lt_iff_lt-mul, one-mul, arith, eqb-true}
use Rattle.std.proofs.Math.Nat.{pow-zero, pow-le-pow_right, one-le-pow}
use Rattle.std.specs.Int.Bits.{bit_and, bit_or, bit_xor}
use Rattle.std.proofs.lemmas.Nat.{and_le_l}
use Rattle.std.proofs.lemmas.Bool.{eqb-false}
use Rattle.logic.specs.Tests.{andb, orb, pick, pickb, digit, in_part}
use Rattle.logic.proofs.Digits.{digit_lt}
use Rattle.logic.specs.Reflect.{Is}
use Rattle.logic.proofs.Reflect.{false_true, is_iff, is_eq}
use Rattle.cells.specs.Bits.{digit_zero, digit_past, same_digits, digit_and, digit_or, digit_xor, digit_placed}

two_pos : 0 < 2
two_pos = omega arith

and_bits : (x y : ℕ) → x < 2 → y < 2 → eqb (bit_and x y) 1 ≡ andb (eqb x 1) (eqb y 1)
and_bits zero y p q = refl
and_bits (suc zero) zero p q = refl
and_bits (suc zero) (suc zero) p q = refl
and_bits (suc zero) (suc (suc y)) p q = absurd (not-suc-le-zero (le_of_suc-le-suc (le_of_suc-le-suc q)))
and_bits (suc (suc x)) y p q = absurd (not-suc-le-zero (le_of_suc-le-suc (le_of_suc-le-suc p)))

or_bits : (x y : ℕ) → x < 2 → y < 2 → eqb (bit_or x y) 1 ≡ orb (eqb x 1) (eqb y 1)
or_bits zero y p q = refl
or_bits (suc zero) zero p q = refl
or_bits (suc zero) (suc zero) p q = refl
or_bits (suc zero) (suc (suc y)) p q = absurd (not-suc-le-zero (le_of_suc-le-suc (le_of_suc-le-suc q)))
or_bits (suc (suc x)) y p q = absurd (not-suc-le-zero (le_of_suc-le-suc (le_of_suc-le-suc p)))

xor_bits : (x y : ℕ) → x < 2 → y < 2 → eqb (bit_xor x y) 1 ≡ pickb (eqb x 1) (not (eqb y 1)) (eqb y 1)
xor_bits zero y p q = refl
xor_bits (suc zero) zero p q = refl
xor_bits (suc zero) (suc zero) p q = refl
xor_bits (suc zero) (suc (suc y)) p q = absurd (not-suc-le-zero (le_of_suc-le-suc (le_of_suc-le-suc q)))
xor_bits (suc (suc x)) y p q = absurd (not-suc-le-zero (le_of_suc-le-suc (le_of_suc-le-suc p)))

pub in_and : (a b ℓ : ℕ) → in_part (bit_and a b) ℓ ≡ andb (in_part a ℓ) (in_part b ℓ)
unfolding in_part
in_and a b zero = refl
in_and a b (suc i) =
    ap (λ (q : ℕ). eqb q 1) (digit_and 1 a b i) ∙ and_bits (digit 2 a i) (digit 2 b i) (digit_lt 2 a i two_pos) (digit_lt 2 b i two_pos)

pub in_or : (a b ℓ : ℕ) → in_part (bit_or a b) ℓ ≡ orb (in_part a ℓ) (in_part b ℓ)
unfolding in_part
in_or a b zero = refl
in_or a b (suc i) =
    ap (λ (q : ℕ). eqb q 1) (digit_or 1 a b i) ∙ or_bits (digit 2 a i) (digit 2 b i) (digit_lt 2 a i two_pos) (digit_lt 2 b i two_pos)

pub in_xor : (a b ℓ : ℕ) → in_part (bit_xor a b) ℓ ≡ pickb (in_part a ℓ) (not (in_part b ℓ)) (in_part b ℓ)
unfolding in_part
in_xor a b zero = refl
in_xor a b (suc i) =
    ap (λ (q : ℕ). eqb q 1) (digit_xor 1 a b i) ∙ xor_bits (digit 2 a i) (digit 2 b i) (digit_lt 2 a i two_pos) (digit_lt 2 b i two_pos)

-- the members of a set that is moved down by one
pub in_half : (m i : ℕ) → in_part (m / 2) (suc i) ≡ in_part m (suc (suc i))
unfolding in_part digit
in_half m i = refl

pub in_nil : (m : ℕ) → in_part m 0 ≡ false
unfolding in_part
in_nil m = refl

pub in_nothing : (ℓ : ℕ) → in_part 0 ℓ ≡ false
unfolding in_part
in_nothing zero = refl
in_nothing (suc i) = ap (λ (q : ℕ). eqb q 1) (digit_zero 2 i two_pos)

-- no location above k is in a set below 2 ^ k
pub in_past : (k m ℓ : ℕ) → m < 2 ^ k → k < ℓ → in_part m ℓ ≡ false
unfolding in_part
in_past k m zero h l = refl
in_past k m (suc i) h l = ap (λ (q : ℕ). eqb q 1) (digit_past 2 k m i two_pos h (le_of_suc-le-suc l))

pub bit_of_is : (b : Bool) → eqb (pick b 1 0) 1 ≡ b
bit_of_is true = refl
bit_of_is false = refl

-- the set that is one bit
pub in_pow : (l i : ℕ) → in_part (2 ^ l) (suc i) ≡ eqb i l
unfolding in_part
in_pow l i =
    ap (λ (q : ℕ). eqb (digit 2 q i) 1) (sym (one-mul (2 ^ l))) ∙ ap (λ (q : ℕ). eqb q 1) (digit_placed 2 1 l i (omega arith)) ∙ bit_of_is (eqb i l)

-- the set of one location; that of nil is empty
pub in_just : (l i : ℕ) → in_part (2 ^ l / 2) (suc i) ≡ eqb (suc i) l
in_just l i = in_half (2 ^ l) i ∙ in_pow l (suc i)

-- each location up to k is in the greatest set below 2 ^ k
pub in_all : (k i : ℕ) → i < k → in_part (2 ^ k - 1) (suc i) ≡ true
unfolding in_part digit
in_all zero i l = absurd (not-suc-le-zero l)
in_all (suc k) zero l =
    let p = one-le-pow k 2 two_pos in
    let odd : (2 ^ suc k - 1) % 2 ≡ 1 = rw (pow-suc 2 k) (omega arith) in
    rw odd
in_all (suc k) (suc i) l =
    let p = one-le-pow k 2 two_pos in
    let half : (2 ^ suc k - 1) / 2 ≡ 2 ^ k - 1 = rw (pow-suc 2 k) (omega arith) in
    rw half (in_all k i (le_of_suc-le-suc l))

no_one : (x : ℕ) → x < 2 → eqb x 1 ≡ false → x ≡ 0
no_one zero l e = refl
no_one (suc zero) l e = absurd (eqb-false 1 1 e refl)
no_one (suc (suc x)) l e = absurd (not-suc-le-zero (le_of_suc-le-suc (le_of_suc-le-suc l)))

same_bit : (x y : ℕ) → x < 2 → y < 2 → eqb x 1 ≡ eqb y 1 → x ≡ y
same_bit zero y p q e = sym (no_one y q (sym e))
same_bit (suc zero) y p q e = sym (eqb-true y 1 (sym e))
same_bit (suc (suc x)) y p q e = absurd (not-suc-le-zero (le_of_suc-le-suc (le_of_suc-le-suc p)))

-- two sets with the same members are the same
pub same_set : (k a b : ℕ) → a < 2 ^ k → b < 2 ^ k → ((ℓ : ℕ) → in_part a ℓ ≡ in_part b ℓ) → a ≡ b
unfolding in_part
same_set k a b p q e =
    same_digits 2 k a b two_pos p q (λ i _. same_bit (digit 2 a i) (digit 2 b i) (digit_lt 2 a i two_pos) (digit_lt 2 b i two_pos) (e (suc i)))

-- a set with no member above n is below 2 ^ n
pub set_small : (n k a : ℕ) → a < 2 ^ k → ((ℓ : ℕ) → n < ℓ → in_part a ℓ ≡ false) → a < 2 ^ n
unfolding in_part digit
set_small zero k a l z =
    rw pow-zero
    (subst (λ (x : ℕ). x < 1) (sym (same_set k a 0 l (lt_of_le_of_lt zero-le l) (λ ℓ. none ℓ ∙ sym (in_nothing ℓ)))) (omega arith))
  where
    none : (ℓ : ℕ) → in_part a ℓ ≡ false
    none zero = refl
    none (suc i) = z (suc i) (omega arith)
set_small (suc n) zero a l z = lt_of_lt_of_le l (pow-le-pow_right {n = 2} two_pos {i = 0} {j = suc n} zero-le)
set_small (suc n) (suc k) a l z =
    rw pow-suc ((div-lt_iff_lt-mul {k = 2} {x = a} {y = 2 ^ n} two_pos).0
    (set_small n k (a / 2) ((div-lt_iff_lt-mul {k = 2} {x = a} {y = 2 ^ k} two_pos).1 (rw pow-suc at l)) halved))
  where
    halved : (ℓ : ℕ) → n < ℓ → in_part (a / 2) ℓ ≡ false
    halved zero h = refl
    halved (suc i) h = z (suc (suc i)) (omega arith)

-- whether two sets have no common member, as code works it out
pub is_meet_nothing : (k a b : ℕ) → a < 2 ^ k → Is (eqb (bit_and a b) 0) ((ℓ : ℕ) → in_part a ℓ ≡ true → ¬ (in_part b ℓ ≡ true))
is_meet_nothing k a b l =
    is_iff (is_eq (bit_and a b) 0)
    (λ (e : bit_and a b ≡ 0) ℓ p q. false_true (sym (in_nothing ℓ) ∙ ap (λ (x : ℕ). in_part x ℓ) (sym e) ∙ in_and a b ℓ ∙ rw (p, q)))
    (λ f. same_set k (bit_and a b) 0 (lt_of_le_of_lt (and_le_l a b) l) (lt_of_le_of_lt zero-le l) (λ ℓ. in_and a b ℓ ∙ both (in_part a ℓ) (in_part b ℓ) (f ℓ) ∙ sym (in_nothing ℓ)))
  where
    both : (p q : Bool) → (p ≡ true → ¬ (q ≡ true)) → andb p q ≡ false
    both false q f = refl
    both true false f = refl
    both true true f = absurd (f refl refl)
