-- A packed model has the model's stack and heap. Assumes nothing.
use Rattle.std.specs.Prelude.{◌≡◌, refl, Bool, true, false, List, eqb, ltb, get_or}
use Rattle.std.proofs.Common.{sym, ◌∙◌, ap₂, zero-add, lt_of_lt_of_le, lt-ltb, le-ltb, eq-eqb, ne_eqb}
use Rattle.std.proofs.Math.Path.{ap, fun_ext}
use Prim.Native.Nat.{ℕ, zero, suc, ◌+◌, ◌-◌, ◌*◌, ◌^◌, ◌<◌, ◌≤◌, ◌%◌}
use Rattle.std.proofs.Math.Nat.{pow-le-pow_right}
use Rattle.std.proofs.Math.Decide.{dec_lt, ℕ_discrete}
use native.Mathlib.Omega.{arith}
use Rattle.std.proofs.lemmas.Bool.{eqb-false}
use Rattle.logic.specs.Digits.{num_of}
use Rattle.logic.proofs.Digits.{num_of_lt, digit_num}
use Rattle.logic.specs.Tests.{pick, digit}
use Rattle.logic.specs.Model.{stack_in, heap_in, digit_of}
use Rattle.cells.specs.Cells.{most, word, cells}
use Rattle.cells.specs.Bits.{digit_past}
use Rattle.packing.specs.Packing.{item_of, items, packed_from}

-- a cell's digit, without a test
pub digit_is : (x : ℕ) → x < 256 → (x + 1) % 256 ≡ digit_of x
digit_is x l = go (ℕ_discrete x 255)
  where
    go : Dec (x ≡ 255) → (x + 1) % 256 ≡ digit_of x
    go (yes e) = rw (eq-eqb x 255 e) (omega arith)
    go (no e) = rw (ne_eqb x 255 e) (omega arith)

item_lt : (cell : Bool) (x : ℕ) → x < 256 → item_of cell x < 256
item_lt true x l = go (eqb x 255) refl
  where
    go : (b : Bool) → b ≡ eqb x 255 → pick b 0 (suc x) < 256
    go true e = omega arith
    go false e = omega (arith, eqb-false x 255 (sym e))
item_lt false x l = l

module _ (cell : Bool) (m : List ℕ) (small : (i : ℕ) → get_or m i 0 < 256) (from count : ℕ) where
  pub packed_none : 0 ≡ packed_from cell m from count count
  unfolding num_of
  packed_none = let e : count - count ≡ 0 = omega arith in rw e

  -- one item more in front
  pub packed_more : (i w x : ℕ) → 0 < i → i ≤ count → w ≡ packed_from cell m from count i → x ≡ items cell m from (i - 1) → w * 256 + x ≡ packed_from cell m from count (i - 1)
  unfolding num_of
  packed_more i w x l h ew ex =
      let e : count - (i - 1) ≡ suc (count - i) = omega arith in
      let back : (j : ℕ) → i - 1 + suc j ≡ i + j = λ j. omega arith in
      let here : i - 1 + 0 ≡ i - 1 = omega arith in
      rw e (ap₂ (λ (a b : ℕ). a * 256 + b)
      (ew ∙ ap (num_of 256 (count - i)) (fun_ext λ j. ap (items cell m from) (sym (back j))))
      (ex ∙ ap (items cell m from) (sym here)))

  pub packed_lt : (i : ℕ) → packed_from cell m from count i < 256 ^ (count - i)
  packed_lt i = num_of_lt 256 (count - i) (λ j. items cell m from (i + j)) (λ j. item_lt cell (get_or m (from + (i + j)) 0) (small (from + (i + j))))

  -- there is room for one more
  pub packed_fits : (i : ℕ) → count ≤ most → 0 < i → packed_from cell m from count i * 256 + 255 < word
  packed_fits i l h =
      let a : packed_from cell m from count i < 256 ^ (most - 1) = lt_of_lt_of_le (packed_lt i) (pow-le-pow_right {n = 256} (omega arith) {i = count - i} {j = most - 1} (omega arith)) in
      omega arith

  pub packed_cells : (w : ℕ) → w ≡ packed_from cell m from count 0 → (i : ℕ) → cells w (suc i) ≡ pick (ltb i count) (items cell m from i) 0
  unfolding cells
  packed_cells w e i = rw e (go (dec_lt i count))
    where
      start : count - 0 ≡ count
      start = omega arith

      go : Dec (i < count) → digit 256 (packed_from cell m from count 0) i ≡ pick (ltb i count) (items cell m from i) 0
      go (yes l) =
          rw (lt-ltb i count l)
          (digit_num 256 (count - 0) (λ j. items cell m from (0 + j)) (λ j. item_lt cell (get_or m (from + (0 + j)) 0) (small (from + (0 + j)))) i (omega arith)
          ∙ ap (items cell m from) (zero-add i))
      go (no l) = rw (le-ltb i count (omega arith)) (digit_past 256 (count - 0) (packed_from cell m from count 0) i (omega arith) (packed_lt 0) (omega arith))

pub packed_stack : (m : List ℕ) → ((i : ℕ) → get_or m i 0 < 256) → (v w : ℕ) → w ≡ packed_from false m 0 v 0 → cells w ≡ stack_in v m
unfolding stack_in cells
packed_stack m small v w e = fun_ext λ x. go x
  where
    go : (x : ℕ) → cells w x ≡ stack_in v m x
    go zero = refl
    go (suc i) = packed_cells false m small 0 v w e i ∙ ap (λ (j : ℕ). pick (ltb i v) (get_or m j 0) 0) (zero-add i)

pub packed_heap : (m : List ℕ) → ((i : ℕ) → get_or m i 0 < 256) → (v n w : ℕ) → w ≡ packed_from true m v n 0 → cells w ≡ heap_in v n m
unfolding heap_in cells
packed_heap m small v n w e = fun_ext λ ℓ. go ℓ
  where
    go : (ℓ : ℕ) → cells w ℓ ≡ heap_in v n m ℓ
    go zero = refl
    go (suc i) = packed_cells true m small v n w e i
