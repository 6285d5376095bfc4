-- Laws of blocks: what a hunt that passes over a block keeps, and which digits a block shares. Assumes nothing.
use Rattle.std.specs.Prelude.{◌≡◌, ltb}
use Rattle.std.proofs.Math.Path.{refl, ap}
use Rattle.std.proofs.Common.{sym, subst, ◌∙◌, not-suc-le-zero, le_of_suc-le-suc, eq-or-lt_of_le, pow-suc, div-one, mul_comm, mul_assoc, div-lt_iff_lt-mul, le-div_iff_mul-le, div-mul-le_self, mul-le-mul_left, arith, lt-ltb, le-ltb}
use Rattle.std.proofs.Math.Logic.{⊎_elim}
use Prim.Native.Nat.{ℕ, zero, suc, ◌+◌, ◌-◌, ◌*◌, ◌/◌, ◌^◌, ◌<◌, ◌≤◌}
use Rattle.std.proofs.Math.Nat.{pow-zero, mul-one, one-le-pow, div-div-eq-div-mul}
use Rattle.std.proofs.Math.Decide.{dec_lt, dec_le}
use Rattle.logic.specs.Tests.{pick, digit, heap_of}
use Rattle.logic.specs.Candidates.{digits_of, stack_of}
use Rattle.skips.specs.Ranges.{Passed}
use Rattle.skips.specs.Blocks.{weight, Block, after, Skippable}

-- ---- a hunt that passes over a block

module _ (P : ℕ → Type 0) (t : ℕ) where
  module _ (w i : ℕ) (p : 0 < w) where
    pub in_block : (c : ℕ) → i ≤ c → c < after w i → Block w i c
    in_block c l m =
        let a : i / w ≤ c / w = (le-div_iff_mul-le {k = w} {x = i / w} {y = c} p).1 (omega (arith, div-mul-le_self i w)) in
        let b : c / w < i / w + 1 = (div-lt_iff_lt-mul {k = w} {x = c} {y = i / w + 1} p).1 m in
        omega (arith, a, b)

    -- the block of i is passed over
    pub skip_block : (from : ℕ) → Passed P t from i → Skippable P t w i → Passed P t from (after w i)
    skip_block from q f c l m r = go (dec_lt c i)
      where
        go : Dec (c < i) → ⊥
        go (yes b) = q c l b r
        go (no b) = f c (in_block c (omega arith) m) r

    -- the hunt goes on
    pub after_above : i < after w i
    after_above = (div-lt_iff_lt-mul {k = w} {x = i} {y = i / w + 1} p).0 (omega arith)

-- ---- which digits a block shares

pub digit_shared : (b j c d i : ℕ) → c / b ^ j ≡ d / b ^ j → j ≤ i → digit b c i ≡ digit b d i
unfolding digit
digit_shared b zero c d i e l = ap (λ (x : ℕ). digit b x i) (sym (div-one c) ∙ ap (λ (x : ℕ). c / x) (sym (pow-zero b)) ∙ e ∙ ap (λ (x : ℕ). d / x) (pow-zero b) ∙ div-one d)
digit_shared b (suc j) c d zero e l = absurd (not-suc-le-zero l)
digit_shared b (suc j) c d (suc i) e l =
    digit_shared b j (c / b) (d / b) i (first c ∙ e ∙ sym (first d)) (le_of_suc-le-suc l)
  where
    first : (x : ℕ) → x / b / b ^ j ≡ x / b ^ suc j
    first x = div-div-eq-div-mul x b (b ^ j) ∙ ap (λ (y : ℕ). x / y) (mul_comm b (b ^ j) ∙ sym (pow-suc b j))

-- a larger block
pub shared_times : (w k i c : ℕ) → Block w i c → Block (w * k) i c
shared_times w k i c e = sym (div-div-eq-div-mul c w k) ∙ ap (λ (x : ℕ). x / k) e ∙ div-div-eq-div-mul i w k

pub shared_more : (b j m i c : ℕ) → j ≤ m → Block (b ^ j) i c → Block (b ^ m) i c
shared_more b j zero i c l e = subst (λ (x : ℕ). Block (b ^ x) i c) (omega arith) e
shared_more b j (suc m) i c l e =
    ⊎_elim (λ (z : j ≡ suc m). subst (λ (x : ℕ). Block (b ^ x) i c) z e)
    (λ (z : j < suc m). subst (λ (x : ℕ). Block x i c) (sym (pow-suc b m)) (shared_times (b ^ m) b i c (shared_more b j m i c (le_of_suc-le-suc z) e)))
    (eq-or-lt_of_le l)

digits_shared : (b k j c d : ℕ) → c / b ^ j ≡ d / b ^ j → (i : ℕ) → j < i → digits_of b k c i ≡ digits_of b k d i
unfolding digits_of
digits_shared b k j c d e zero l = refl
digits_shared b k j c d e (suc i) l = ap (λ (x : ℕ). pick (ltb i k) x 0) (digit_shared b j c d i e (le_of_suc-le-suc l))

module _ (n : ℕ) where
  pub weight_heap : (j : ℕ) → j ≤ n → weight n j ≡ (n + 2) ^ j
  unfolding weight
  weight_heap j l =
      ⊎_elim (λ (e : j ≡ n). rw (le-ltb j n (omega arith)) (whole e)) (λ (m : j < n). rw (lt-ltb j n m)) (eq-or-lt_of_le l)
    where
      whole : j ≡ n → (n + 2) ^ n * (n + 1) ^ (j - n) ≡ (n + 2) ^ j
      whole e =
          ap (λ (x : ℕ). (n + 2) ^ n * (n + 1) ^ x) (omega arith)
          ∙ ap (λ (x : ℕ). (n + 2) ^ n * x) (pow-zero (n + 1))
          ∙ mul-one ((n + 2) ^ n)
          ∙ ap (λ (x : ℕ). (n + 2) ^ x) (sym e)

  pub weight_stack : (x : ℕ) → weight n (n + x) ≡ (n + 2) ^ n * (n + 1) ^ x
  unfolding weight
  weight_stack x = rw (le-ltb (n + x) n (omega arith)) (ap (λ (y : ℕ). (n + 2) ^ n * (n + 1) ^ y) (omega arith))

  pub weight_first : weight n 0 ≡ 1
  weight_first = weight_heap 0 (omega arith) ∙ pow-zero (n + 2)

  -- the next weight: one more digit
  weight_next_stack : (x : ℕ) → weight n (suc (n + x)) ≡ weight n (n + x) * (n + 1)
  weight_next_stack x =
      ap (weight n) (omega arith)
      ∙ weight_stack (suc x)
      ∙ ap (λ (y : ℕ). (n + 2) ^ n * y) (pow-suc (n + 1) x)
      ∙ sym (mul_assoc ((n + 2) ^ n) ((n + 1) ^ x) (n + 1))
      ∙ ap (λ (y : ℕ). y * (n + 1)) (sym (weight_stack x))

  pub weight_some : (j : ℕ) → 0 < weight n j
  weight_some j = go (dec_le j n)
    where
      up : (x : ℕ) → 0 < weight n (n + x)
      up zero = subst (λ (y : ℕ). 0 < y) (sym (weight_heap n (omega arith)) ∙ ap (weight n) (omega arith)) (one-le-pow n (n + 2) (omega arith))
      up (suc x) =
          let p = up x in
          let m : weight n (n + x) * 1 ≤ weight n (n + x) * (n + 1) = mul-le-mul_left (weight n (n + x)) (omega arith) in
          subst (λ (y : ℕ). 0 < y) (sym (weight_next_stack x) ∙ ap (weight n) (omega arith)) (omega (arith, p, m, mul-one (weight n (n + x))))

      go : Dec (j ≤ n) → 0 < weight n j
      go (yes l) = subst (λ (x : ℕ). 0 < x) (sym (weight_heap j l)) (one-le-pow j (n + 2) (omega arith))
      go (no l) = subst (λ (x : ℕ). 0 < x) (ap (weight n) (omega arith)) (up (j - n))

  module _ (i c : ℕ) where
    -- a block below the locations' digits: the locations above j, and the stack
    pub block_heap : (j : ℕ) → j ≤ n → Block (weight n j) i c → (ℓ : ℕ) → j < ℓ → heap_of n c ℓ ≡ heap_of n i ℓ
    unfolding heap_of
    block_heap j l e zero m = refl
    block_heap j l e (suc ℓ) m =
        ap (λ (x : ℕ). pick (ltb ℓ n) x 0) (digit_shared (n + 2) j c i ℓ (subst (λ (w : ℕ). Block w i c) (weight_heap j l) e) (le_of_suc-le-suc m))

    pub block_whole_stack : (v j : ℕ) → j ≤ n → Block (weight n j) i c → stack_of v n c ≡ stack_of v n i
    block_whole_stack v j l e = ap (digits_of (n + 1) v) (shared_more (n + 2) j n i c l (subst (λ (w : ℕ). Block w i c) (weight_heap j l) e))

    -- a block below the variables' digits: the variables above x
    pub block_stack : (v x : ℕ) → Block (weight n (n + x)) i c → (y : ℕ) → x < y → stack_of v n c y ≡ stack_of v n i y
    block_stack v x e y m =
        digits_shared (n + 1) v x (c / (n + 2) ^ n) (i / (n + 2) ^ n)
        (div-div-eq-div-mul c ((n + 2) ^ n) ((n + 1) ^ x) ∙ subst (λ (w : ℕ). Block w i c) (weight_stack x) e ∙ sym (div-div-eq-div-mul i ((n + 2) ^ n) ((n + 1) ^ x)))
        y m
