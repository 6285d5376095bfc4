-- Laws of one step of the digits: those that were the last go to 0, and the first that was not is one more. Assumes nothing.
use Rattle.std.specs.Prelude.{◌≡◌, refl, Bool, true, false, ℕ, zero, suc, ◌+◌, ◌*◌, ◌/◌, ◌%◌, ◌^◌, ◌<◌, ◌≤◌, eqb, ltb}
use Rattle.std.proofs.Common.{sym, subst, ◌∙◌, pow-suc, mul_comm, add-mul, one-mul, zero-mul, mod-eq_of_lt, mul-div_cancel, lt_of_le_of_lt, div-mul-le_self, add-one, arith, eq-eqb, ne_eqb, lt-ltb, le-ltb}
use Rattle.std.proofs.Math.Path.{ap, fun_ext}
use Rattle.std.proofs.Math.Nat.{add-mod_right, one-le-pow}
use Rattle.std.proofs.Math.Decide.{ℕ_discrete, dec_lt}
use Rattle.std.specs.Int.Bits.{bit_or, bit_xor}
use Rattle.logic.specs.Heap.{Map}
use Rattle.logic.specs.Tests.{pick, digit, without}
use Rattle.logic.specs.Candidates.{InBase, value_of}
use Rattle.logic.proofs.NumberLaws.{num_of_changed, value_lt, digit_low as digit_below}
use Rattle.cells.specs.Cells.{cells, Placed}
use Rattle.cells.specs.Heaps.{cut_is, put_at}
use Rattle.cells.specs.Bits.{digit_zero, pow_bytes}
use Rattle.skips.specs.Counts.{above}
use Rattle.skips.proofs.BlockLaws.{digit_shared}
use Rattle.skips.proofs.AfterLaws.{value_above}
use Rattle.candidates.specs.Counter.{Carries, Cleared, Bumps}

-- r is m with x at i+1
module _ (m r : Map) (i x : ℕ) (is : (ℓ : ℕ) → r ℓ ≡ pick (eqb ℓ (suc i)) x (m ℓ)) where
  changed_here : r (suc i) ≡ x
  changed_here = is (suc i) ∙ rw (eq-eqb (suc i) (suc i) refl)

  changed_off : (ℓ : ℕ) → ¬ (ℓ ≡ suc i) → r ℓ ≡ m ℓ
  changed_off ℓ n = is ℓ ∙ rw (ne_eqb ℓ (suc i) n)

  changed_base : (b k : ℕ) → i < k → x < b → InBase b k m → InBase b k r
  changed_base b k l h q =
      record {
        nil = changed_off 0 (λ (e : 0 ≡ suc i). omega arith) ∙ q.nil;
        low = λ ℓ. low' ℓ (ℕ_discrete ℓ (suc i));
        past = λ ℓ u. changed_off ℓ (λ (e : ℓ ≡ suc i). omega arith) ∙ q.past ℓ u;
      }
    where
      low' : (ℓ : ℕ) → Dec (ℓ ≡ suc i) → r ℓ < b
      low' ℓ (yes e) = subst (λ (y : ℕ). y < b) (sym (ap r e ∙ changed_here)) h
      low' ℓ (no n) = subst (λ (y : ℕ). y < b) (sym (changed_off ℓ n)) (q.low ℓ)

  changed_value : (b k : ℕ) → i < k → value_of b k r + m (suc i) * b ^ i ≡ value_of b k m + x * b ^ i
  changed_value b k l =
      num_of_changed b k i (λ j. m (suc j)) (λ j. r (suc j)) l (λ j n. changed_off (suc j) (λ (e : suc j ≡ suc i). n (omega arith)))
      ∙ ap (λ (y : ℕ). value_of b k m + y * b ^ i) changed_here

-- the digits for 1 to i were the last and are 0 now: what is left to do is one more at i+1
pub record Turned (b k j w g i : ℕ) : Type 0 where
  pub up_to : i ≤ k
  pub base : InBase b k (cells g)
  pub value : value_of b k (cells g) + b ^ i ≡ value_of b k (cells w) + b ^ j

pub turned_none : (b k j w : ℕ) → j ≤ k → InBase b k (cells w) → Turned b k j w w j
turned_none b k j w l q = record { up_to = l; base = q; value = refl }

module _ (b k j w g i l d p : ℕ) (t : Turned b k j w g i) (h : i < k) (el : l ≡ suc i) (ed : d ≡ cells g l) (ep : Placed d l p) where
  -- the digit at i+1 taken out
  cut_at : (ℓ : ℕ) → cells (bit_xor g p) ℓ ≡ pick (eqb ℓ (suc i)) 0 (cells g ℓ)
  unfolding without
  cut_at ℓ =
      ap (λ (m : Map). m ℓ) (cut_is g l p (subst (λ (x : ℕ). Placed x l p) ed ep)) ∙ ap (λ (x : ℕ). pick (eqb ℓ x) 0 (cells g ℓ)) el

  digit_is : cells g (suc i) ≡ d
  digit_is = ap (cells g) (sym el) ∙ sym ed

  pub digit_low : d < b
  digit_low = subst (λ (x : ℕ). x < b) digit_is (t.base.low (suc i))

  cut_base : InBase b k (cells (bit_xor g p))
  cut_base = changed_base (cells g) (cells (bit_xor g p)) i 0 cut_at b k h (omega (arith, digit_low)) t.base

  cut_value : value_of b k (cells (bit_xor g p)) + d * b ^ i ≡ value_of b k (cells g)
  cut_value =
      let e = changed_value (cells g) (cells (bit_xor g p)) i 0 cut_at b k h in
      let f : cells g (suc i) * b ^ i ≡ d * b ^ i = ap (λ (x : ℕ). x * b ^ i) digit_is in
      omega (arith, zero-mul (b ^ i))

  one_more : (d + 1) * b ^ i ≡ d * b ^ i + b ^ i
  one_more = add-mul d 1 (b ^ i) ∙ ap (λ (x : ℕ). d * b ^ i + x) (one-mul (b ^ i))

  pub turned_more : ¬ (d + 1 < b) → Turned b k j w (bit_xor g p) (i + 1)
  turned_more n =
      let last : d + 1 ≡ b = omega (arith, digit_low) in
      let power : b ^ (i + 1) ≡ (d + 1) * b ^ i = ap (λ (x : ℕ). b ^ x) (add-one i) ∙ pow-suc b i ∙ mul_comm (b ^ i) b ∙ ap (λ (x : ℕ). x * b ^ i) (sym last) in
      record { up_to = omega arith; base = cut_base; value = omega (arith, t.value, cut_value, one_more) }

  module _ (q : ℕ) (n : d + 1 < b) (eq : Placed (d + 1) l q) where
    put_is : (ℓ : ℕ) → cells (bit_or (bit_xor g p) q) ℓ ≡ pick (eqb ℓ (suc i)) (d + 1) (cells (bit_xor g p) ℓ)
    put_is ℓ =
        put_at (bit_xor g p) (d + 1) l q (ap (cells (bit_xor g p)) el ∙ changed_here (cells g) (cells (bit_xor g p)) i 0 cut_at) eq ℓ
        ∙ ap (λ (x : ℕ). pick (eqb ℓ x) (d + 1) (cells (bit_xor g p) ℓ)) el

    put_base : InBase b k (cells (bit_or (bit_xor g p) q))
    put_base = changed_base (cells (bit_xor g p)) (cells (bit_or (bit_xor g p) q)) i (d + 1) put_is b k h n cut_base

    put_value : value_of b k (cells (bit_or (bit_xor g p) q)) ≡ value_of b k (cells w) + b ^ j
    put_value =
        let e = changed_value (cells (bit_xor g p)) (cells (bit_or (bit_xor g p) q)) i (d + 1) put_is b k h in
        let z : cells (bit_xor g p) (suc i) * b ^ i ≡ 0 = ap (λ (x : ℕ). x * b ^ i) (changed_here (cells g) (cells (bit_xor g p)) i 0 cut_at) ∙ zero-mul (b ^ i) in
        omega (arith, t.value, cut_value, one_more)

    pub carries_more : Carries b k j w (bit_or (bit_xor g p) q)
    carries_more =
        record {
          base = put_base;
          value = put_value ∙ sym (mod-eq_of_lt (subst (λ (x : ℕ). x < b ^ k) put_value (value_lt b k (cells (bit_or (bit_xor g p) q)) put_base)));
        }

-- every digit was the last
pub carries_last : (b k j w g i : ℕ) → Turned b k j w g i → ¬ (i < k) → Carries b k j w g
carries_last b k j w g i t n =
    let e : i ≡ k = omega (arith, t.up_to) in
    let v : value_of b k (cells g) + b ^ k ≡ value_of b k (cells w) + b ^ j = subst (λ (x : ℕ). value_of b k (cells g) + b ^ x ≡ value_of b k (cells w) + b ^ j) e t.value in
    record {
      base = t.base;
      value = sym (ap (λ (x : ℕ). x % b ^ k) (sym v) ∙ add-mod_right (value_of b k (cells g)) (b ^ k) ∙ mod-eq_of_lt (value_lt b k (cells g) t.base));
    }

-- ---- the digits below j taken out

pub cleared_law : (j w r : ℕ) → r ≡ w / 256 ^ j * 256 ^ j → Cleared j w r
unfolding above cells
cleared_law j w r e zero = sym (go (ltb 0 (suc j)))
  where
    go : (b : Bool) → pick b 0 0 ≡ 0
    go true = refl
    go false = refl
cleared_law j w r e (suc i) = go (dec_lt i j)
  where
    go : Dec (i < j) → digit 256 r i ≡ pick (ltb (suc i) (suc j)) 0 (digit 256 w i)
    go (yes l) =
        rw (lt-ltb (suc i) (suc j) (omega arith))
        (ap (λ (x : ℕ). digit 256 x i) (e ∙ omega arith) ∙ digit_below 256 j (w / 256 ^ j) 0 i (omega arith) l ∙ digit_zero 256 i (omega arith))
    go (no l) =
        rw (le-ltb (suc i) (suc j) (omega arith))
        (digit_shared 256 j r w i (ap (λ (x : ℕ). x / 256 ^ j) e ∙ mul-div_cancel (w / 256 ^ j) {n = 256 ^ j} (one-le-pow j 256 (omega arith))) (omega arith))

pub cleared_shift : (j w : ℕ) → w < 18446744073709551616 → Cleared j w (w / 2 ^ (8 * j) * 2 ^ (8 * j) % 18446744073709551616)
cleared_shift j w l =
    cleared_law j w _ (mod-eq_of_lt (lt_of_le_of_lt (div-mul-le_self w (2 ^ (8 * j))) l) ∙ ap (λ (x : ℕ). w / x * x) (pow_bytes j))

above_base : (b k j : ℕ) (m : Map) → InBase b k m → InBase b k (above j m)
unfolding above
above_base b k j m q = record { nil = go 0 (ltb 0 j) q.nil; low = λ i. low' i (ltb i j); past = λ i l. go i (ltb i j) (q.past i l) }
  where
    go : (i : ℕ) (c : Bool) → m i ≡ 0 → pick c 0 (m i) ≡ 0
    go i true e = refl
    go i false e = e

    low' : (i : ℕ) (c : Bool) → pick c 0 (m i) < b
    low' i true = omega (arith, q.low 0)
    low' i false = q.low i

pub cleared_base : (b k j w r : ℕ) → Cleared j w r → InBase b k (cells w) → InBase b k (cells r)
cleared_base b k j w r e q =
    subst (InBase b k) (sym (fun_ext λ ℓ. e ℓ)) (above_base b k (suc j) (cells w) q)

-- the first number after a block
pub bumped : (b k j w g r : ℕ) → Cleared j w g → InBase b k (cells w) → Carries b k j g r → Bumps b k j w r
bumped b k j w g r e q c =
    record {
      base = c.base;
      value = c.value ∙ ap (λ (x : ℕ). x % b ^ k) (ap (λ (m : Map). value_of b k m + b ^ j) (fun_ext λ ℓ. e ℓ) ∙ value_above b k j (cells w) q);
    }
