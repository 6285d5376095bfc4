-- The first candidate after a block, by its digits: those above go one up, and those below go to 0. Assumes nothing.
use Rattle.std.specs.Prelude.{◌≡◌, ℕ, zero, suc, ◌+◌, ◌-◌, ◌*◌, ◌/◌, ◌^◌, ◌<◌, ◌≤◌, ltb}
use Rattle.std.proofs.Common.{sym, subst, ◌∙◌, ap, ap₂, pow-suc, div-one, mul-one, one-mul, zero-mul, mul_assoc, mul_comm, add-mul, div-lt_iff_lt-mul, mul-le-mul_right, arith, pow-add, lt-ltb, le-ltb}
use Rattle.std.proofs.Math.Nat.{pow-zero, zero-div, one-le-pow, mul-add-div_right, div-div-eq-div-mul}
use Rattle.std.proofs.Math.Decide.{dec_lt}
use Rattle.std.proofs.Math.Arith.{digits_div}
use Rattle.logic.specs.Heap.{Map, Heap}
use Rattle.logic.specs.Tests.{pick}
use Rattle.logic.specs.Digits.{num_of}
use Rattle.logic.specs.Candidates.{InBase, value_of, number_of}
use Rattle.logic.proofs.NumberLaws.{num_of_same, value_lt}
use Rattle.logic.proofs.CandidateLaws.{heap_in_base}
use Rattle.skips.specs.Counts.{above}
use Rattle.skips.specs.Blocks.{weight, after}
use Rattle.skips.proofs.BlockLaws.{weight_heap, weight_stack}

-- one more of w
pub after_more : (w i : ℕ) → after w i ≡ i / w * w + w
after_more w i = add-mul (i / w) 1 w ∙ ap (λ (x : ℕ). i / w * w + x) (one-mul w)

-- ---- the digits below j taken out

cleared_more : (b j k : ℕ) (d : ℕ → ℕ) → num_of b k (λ i. pick (ltb (suc i) (suc j)) 0 (d i)) ≡ num_of b k (λ i. pick (ltb i j) 0 (d i))
cleared_more b j k d = num_of_same b k (λ i. pick (ltb (suc i) (suc j)) 0 (d i)) (λ i. pick (ltb i j) 0 (d i)) (λ i _. go i (dec_lt i j))
  where
    go : (i : ℕ) → Dec (i < j) → pick (ltb (suc i) (suc j)) 0 (d i) ≡ pick (ltb i j) 0 (d i)
    go i (yes l) = rw (lt-ltb i j l, lt-ltb (suc i) (suc j) (omega arith))
    go i (no l) = rw (le-ltb i j (omega arith), le-ltb (suc i) (suc j) (omega arith))

num_of_cleared : (b j k : ℕ) (d : ℕ → ℕ) → ((i : ℕ) → d i < b) → num_of b k (λ i. pick (ltb i j) 0 (d i)) ≡ num_of b k d / b ^ j * b ^ j
unfolding num_of
num_of_cleared b zero k d l =
    num_of_same b k (λ i. pick (ltb i 0) 0 (d i)) d (λ i _. ap (λ (x : ℕ). x) (rw (le-ltb i 0 (omega arith))))
    ∙ sym (mul-one (num_of b k d))
    ∙ ap (λ (x : ℕ). x * 1) (sym (div-one (num_of b k d)))
    ∙ ap (λ (x : ℕ). num_of b k d / x * x) (sym (pow-zero b))
num_of_cleared b (suc j) zero d l = sym (ap (λ (x : ℕ). x * b ^ suc j) (zero-div (b ^ suc j)) ∙ zero-mul (b ^ suc j))
num_of_cleared b (suc j) (suc k) d l =
    let t = num_of b k (λ i. d (suc i)) in
    let ih : num_of b k (λ i. pick (ltb i j) 0 (d (suc i))) ≡ t / b ^ j * b ^ j = num_of_cleared b j k (λ i. d (suc i)) (λ i. l (suc i)) in
    let low : pick (ltb 0 (suc j)) 0 (d 0) ≡ 0 = rw (lt-ltb 0 (suc j) (omega arith)) in
    let p : b ^ suc j ≡ b * b ^ j = pow-suc b j ∙ mul_comm (b ^ j) b in
    let q : (t * b + d 0) / b ^ suc j ≡ t / b ^ j = ap (λ (x : ℕ). (t * b + d 0) / x) p ∙ sym (div-div-eq-div-mul (t * b + d 0) b (b ^ j)) ∙ ap (λ (x : ℕ). x / b ^ j) (digits_div t (l 0)) in
    let left : num_of b k (λ i. pick (ltb (suc i) (suc j)) 0 (d (suc i))) * b + pick (ltb 0 (suc j)) 0 (d 0) ≡ t / b ^ j * b ^ j * b = ap₂ (λ (x y : ℕ). x * b + y) (cleared_more b j k (λ i. d (suc i)) ∙ ih) low ∙ omega arith in
    left ∙ mul_assoc (t / b ^ j) (b ^ j) b ∙ ap₂ (λ (x y : ℕ). x * y) (sym q) (sym (pow-suc b j))

-- with the digits below taken out, what is left to do is one more at j + 1: where a carry from there starts
pub value_above : (b k j : ℕ) (m : Map) → InBase b k m → value_of b k (above (suc j) m) + b ^ j ≡ after (b ^ j) (value_of b k m)
unfolding above
value_above b k j m r =
    ap (λ (x : ℕ). x + b ^ j) (cleared_more b j k (λ i. m (suc i)) ∙ num_of_cleared b j k (λ i. m (suc i)) (λ i. r.low (suc i)))
    ∙ sym (after_more (b ^ j) (value_of b k m))

-- ---- the number after a block of the heap's digits, and of the stack's

module _ (v n : ℕ) (s h : Map) (kh : Heap n h) where
  pub after_heap : (j : ℕ) → j ≤ n → after (weight n j) (number_of v n s h) ≡ value_of (n + 1) v s * (n + 2) ^ n + after ((n + 2) ^ j) (value_of (n + 2) n h)
  after_heap j l =
      let b = n + 2 in
      let x = value_of (n + 1) v s in
      let y = value_of b n h in
      let p : b ^ n ≡ b ^ (n - j) * b ^ j = ap (λ (e : ℕ). b ^ e) (omega arith) ∙ pow-add b (n - j) j in
      let whole : x * b ^ n ≡ x * b ^ (n - j) * b ^ j = ap (λ (e : ℕ). x * e) p ∙ sym (mul_assoc x (b ^ (n - j)) (b ^ j)) in
      let d : (x * b ^ n + y) / b ^ j ≡ x * b ^ (n - j) + y / b ^ j = ap (λ (e : ℕ). (e + y) / b ^ j) whole ∙ mul-add-div_right (one-le-pow j b (omega arith)) (x * b ^ (n - j)) y in
      let split = add-mul (x * b ^ (n - j)) (y / b ^ j) (b ^ j) in
      ap (λ (e : ℕ). after e (x * b ^ n + y)) (weight_heap n j l)
      ∙ after_more (b ^ j) (x * b ^ n + y)
      ∙ ap (λ (e : ℕ). e * b ^ j + b ^ j) d
      ∙ omega (arith, split, whole, after_more (b ^ j) y)

  pub after_stack : (x : ℕ) → after (weight n (n + x)) (number_of v n s h) ≡ after ((n + 1) ^ x) (value_of (n + 1) v s) * (n + 2) ^ n
  after_stack x =
      let b = (n + 2) ^ n in
      let c = (n + 1) ^ x in
      let y = value_of (n + 1) v s in
      let d : (y * b + value_of (n + 2) n h) / (b * c) ≡ y / c = sym (div-div-eq-div-mul (y * b + value_of (n + 2) n h) b c) ∙ ap (λ (e : ℕ). e / c) (digits_div y (value_lt (n + 2) n h (heap_in_base n h kh))) in
      ap (λ (e : ℕ). after e (number_of v n s h)) (weight_stack n x)
      ∙ ap (λ (e : ℕ). (e + 1) * (b * c)) d
      ∙ ap (λ (e : ℕ). (y / c + 1) * e) (mul_comm b c)
      ∙ sym (mul_assoc (y / c + 1) c b)

-- the number after a block is at most that of all numbers
pub after_le : (b j k x : ℕ) → 0 < b → j ≤ k → x < b ^ k → after (b ^ j) x ≤ b ^ k
after_le b j k x p l m =
    let e : b ^ k ≡ b ^ (k - j) * b ^ j = ap (λ (y : ℕ). b ^ y) (omega arith) ∙ pow-add b (k - j) j in
    let d : x / b ^ j < b ^ (k - j) = (div-lt_iff_lt-mul {k = b ^ j} {x = x} {y = b ^ (k - j)} (one-le-pow j b p)).1 (subst (λ (y : ℕ). x < y) e m) in
    let f : (x / b ^ j + 1) * b ^ j ≤ b ^ (k - j) * b ^ j = mul-le-mul_right (b ^ j) (omega arith) in
    omega (arith, f, e)

pub after_some : (w i : ℕ) → 0 < w → 1 ≤ after w i
after_some w i p = omega (arith, after_more w i)
