-- Laws of the set of the allocated locations, as code works it out of all bytes at once. Assumes nothing.
use Rattle.std.specs.Prelude.{◌≡◌, Bool, not, eqb}
use Rattle.std.proofs.Math.Path.{refl, sym, ap}
use Rattle.std.proofs.Common.{subst, ◌∙◌, lt_of_le_of_lt}
use Rattle.std.proofs.Math.Bool.{true, false}
use Prim.Native.Nat.{ℕ, zero, suc, ◌+◌, ◌*◌, ◌/◌, ◌%◌, ◌^◌, ◌<◌, ◌≤◌}
use Rattle.std.proofs.Math.Decide.{dec_lt}
use native.Mathlib.Omega.{arith}
use Rattle.std.specs.Int.Bits.{bit_and, and_zero_r}
use Rattle.std.proofs.lemmas.Nat.{and_le_r}
use Rattle.logic.specs.Heap.{Heap}
use Rattle.logic.specs.Tests.{pick, all, digit, in_part, allocated}
use Rattle.logic.specs.Digits.{num_of}
use Rattle.logic.proofs.Digits.{num_of_lt, digit_num}
use Rattle.logic.proofs.Reflect.{is_eq, is_all}
use Rattle.cells.specs.Cells.{most, full, word, cells, Taken}
use Rattle.cells.specs.Bits.{digit_past, digit_and, digit_sum, sum_lt}
use Rattle.cells.specs.Sets.{in_nil, in_past, bit_of_is}
use Rattle.cells.specs.Packing.{cells_nil, cells_past, same_cells}

-- a byte of 127, and of 128, for each location
abbrev low7 : ℕ
low7 = 9187201950435737471

abbrev top1 : ℕ
top1 = 9259542123273814144

-- the top bit of each byte of w + low7: of each that is not 0 in w
abbrev pub tops_of : ℕ → ℕ
tops_of w = bit_and (w + low7) top1

-- such bits of four bytes, side by side
abbrev side_of : ℕ → ℕ
side_of x = x * 2113665 / 2 ^ 28 % 16

abbrev gather_of : ℕ → ℕ
gather_of x = side_of (x % 2 ^ 32) + 16 * side_of (x / 2 ^ 32)

-- the number with the top bit at each location of m
abbrev pub tops_for : ℕ → ℕ
tops_for m = num_of 256 most (λ i. pick (in_part m (suc i)) 128 0)

gather_all : all full (λ m. eqb (gather_of (tops_for m)) m) ≡ true
unfolding all num_of in_part digit
gather_all = refl

pub bytes_all : (x d : ℕ) → all most (λ i. eqb (digit 256 x i) d) ≡ true → (i : ℕ) → i < most → digit 256 x i ≡ d
bytes_all x d e = (is_all (λ i. eqb (digit 256 x i) d) (λ i. digit 256 x i ≡ d) most (λ i _. is_eq (digit 256 x i) d)).to e

low7_at : (i : ℕ) → i < most → digit 256 low7 i ≡ 127
unfolding all digit
low7_at = bytes_all low7 127 refl

top1_at : (i : ℕ) → i < most → digit 256 top1 i ≡ 128
unfolding all digit
top1_at = bytes_all top1 128 refl

top_all : all 128 (λ d. eqb (bit_and (d + 127) 128) (pick (not (eqb d 0)) 128 0)) ≡ true
unfolding all
top_all = refl

tops_pick : (b : Bool) → pick b 128 0 < 256
tops_pick true = omega arith
tops_pick false = omega arith

pub tops_small : (w : ℕ) → tops_of w < word
tops_small w = lt_of_le_of_lt (and_le_r (w + low7) top1) (omega arith)

module _ (w : ℕ) (h : w < word) (k : Heap most (cells w)) where
  no_carry : (i : ℕ) → digit 256 w i + digit 256 low7 i < 256
  unfolding cells
  no_carry i = go (dec_lt i most)
    where
      go : Dec (i < most) → digit 256 w i + digit 256 low7 i < 256
      go (yes l) = omega (arith, k.low (suc i), low7_at i l)
      go (no l) = omega (arith, k.low (suc i), digit_past 256 most low7 i (omega arith) (omega arith) (omega arith))

  pub tops_fit : w + low7 < word
  tops_fit = sum_lt 256 most w low7 h (omega arith) no_carry

  top_at : (d : ℕ) → d ≤ 127 → bit_and (d + 127) 128 ≡ pick (not (eqb d 0)) 128 0
  top_at d l =
      (is_all (λ d. eqb (bit_and (d + 127) 128) (pick (not (eqb d 0)) 128 0)) (λ d. bit_and (d + 127) 128 ≡ pick (not (eqb d 0)) 128 0) 128
      (λ d _. is_eq (bit_and (d + 127) 128) (pick (not (eqb d 0)) 128 0))).to top_all d (omega arith)

  tops_at : (ℓ : ℕ) → cells (tops_of w) ℓ ≡ pick (allocated (cells w) ℓ) 128 0
  unfolding cells
  tops_at zero = refl
  tops_at (suc i) = digit_and 8 (w + low7) top1 i ∙ go (dec_lt i most)
    where
      go : Dec (i < most) → bit_and (digit 256 (w + low7) i) (digit 256 top1 i) ≡ pick (not (eqb (digit 256 w i) 0)) 128 0
      go (yes l) = rw (top1_at i l, digit_sum 256 w low7 no_carry i, low7_at i l) (top_at (digit 256 w i) (omega (arith, k.low (suc i))))
      go (no l) =
          rw (digit_past 256 most top1 i (omega arith) (omega arith) (omega arith), digit_past 256 most w i (omega arith) h (omega arith))
          (and_zero_r (digit 256 (w + low7) i))

  -- the set by its bits
  unfoldable pub set_of : ℕ
  set_of = num_of 2 most (λ i. pick (allocated (cells w) (suc i)) 1 0)

  pub set_taken : Taken w set_of
  unfolding set_of in_part
  set_taken = record { small = num_of_lt 2 most (λ i. pick (allocated (cells w) (suc i)) 1 0) (λ i. bit_lt (allocated (cells w) (suc i))); member = each }
    where
      bit_lt : (b : Bool) → pick b 1 0 < 2
      bit_lt true = omega arith
      bit_lt false = omega arith

      each : (ℓ : ℕ) → in_part (num_of 2 most (λ i. pick (allocated (cells w) (suc i)) 1 0)) ℓ ≡ allocated (cells w) ℓ
      each zero = rw (cells_nil w)
      each (suc i) = go (dec_lt i most)
        where
          go : Dec (i < most) → eqb (digit 2 (num_of 2 most (λ j. pick (allocated (cells w) (suc j)) 1 0)) i) 1 ≡ allocated (cells w) (suc i)
          go (yes l) =
              ap (λ (x : ℕ). eqb x 1) (digit_num 2 most (λ j. pick (allocated (cells w) (suc j)) 1 0) (λ j. bit_lt (allocated (cells w) (suc j))) i l)
              ∙ bit_of_is (allocated (cells w) (suc i))
          go (no l) =
              in_past most (num_of 2 most (λ j. pick (allocated (cells w) (suc j)) 1 0)) (suc i) (num_of_lt 2 most (λ j. pick (allocated (cells w) (suc j)) 1 0) (λ j. bit_lt (allocated (cells w) (suc j)))) (omega arith)
              ∙ rw (cells_past w (suc i) h (omega arith))

  pub tops_are : tops_of w ≡ tops_for set_of
  unfolding cells
  tops_are =
      same_cells (tops_of w) (tops_for set_of) (tops_small w) (num_of_lt 256 most (λ i. pick (in_part set_of (suc i)) 128 0) (λ i. tops_pick (in_part set_of (suc i))))
      (λ ℓ. tops_at ℓ ∙ ap (λ (b : Bool). pick b 128 0) (sym (set_taken.member ℓ)) ∙ sym (for_at ℓ))
    where
      for_at : (ℓ : ℕ) → cells (tops_for set_of) ℓ ≡ pick (in_part set_of ℓ) 128 0
      for_at zero = ap (λ (b : Bool). pick b 128 0) (sym (in_nil set_of))
      for_at (suc i) = go (dec_lt i most)
        where
          go : Dec (i < most) → cells (tops_for set_of) (suc i) ≡ pick (in_part set_of (suc i)) 128 0
          go (yes l) = digit_num 256 most (λ j. pick (in_part set_of (suc j)) 128 0) (λ j. tops_pick (in_part set_of (suc j))) i l
          go (no l) =
              cells_past (tops_for set_of) (suc i) (num_of_lt 256 most (λ j. pick (in_part set_of (suc j)) 128 0) (λ j. tops_pick (in_part set_of (suc j)))) (omega arith)
              ∙ sym (ap (λ (b : Bool). pick b 128 0) (in_past most set_of (suc i) set_taken.small (omega arith)))

  pub taken_law : Taken w (gather_of (tops_of w))
  taken_law =
      rw tops_are (subst (Taken w) (sym ((is_all (λ m. eqb (gather_of (tops_for m)) m) (λ m. gather_of (tops_for m) ≡ m) full (λ m _. is_eq (gather_of (tops_for m)) m)).to gather_all set_of set_taken.small)) set_taken)
