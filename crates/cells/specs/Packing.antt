-- Laws of packed numbers: how code reads and writes a field, and the bit operations field by field. Assumes nothing.
use Rattle.std.specs.Prelude.{◌≡◌, refl, Bool, true, ℕ, zero, suc, ◌*◌, ◌-◌, ◌/◌, ◌%◌, ◌^◌, ◌<◌, ◌≤◌, eqb, ltb}
use Rattle.std.proofs.Common.{sym, subst, ◌∙◌, ap, not-suc-le-zero, le_of_suc-le-suc, lt_of_le_of_lt, lt_of_lt_of_le, mod-eq_of_lt, add-zero, one-mul, arith, eq-eqb, ne_eqb}
use Rattle.std.proofs.Math.Nat.{one-le-pow, pow-le-pow_right, pow-succ'}
use Rattle.std.proofs.Math.Decide.{dec_lt, ℕ_discrete}
use Rattle.std.proofs.Math.Arith.{digits_lt}
use Rattle.std.specs.Int.Bits.{bit_and, bit_or, bit_xor}
use Rattle.logic.specs.Tests.{andb, digit, pick, all, in_part}
use Rattle.logic.proofs.Digits.{digit_lt}
use Rattle.logic.proofs.Reflect.{is_all, is_self, is_eq, is_lt, is_and}
use Rattle.cells.specs.Cells.{most, full, word, cells, Placed, Spread}
use Rattle.cells.specs.Sets.{in_past}
use Rattle.cells.specs.Bits.{digit_zero, digit_past, same_digits, digit_is, digit_placed, pow_bytes, digit_and, digit_or, digit_xor}

byte_pos : 0 < 256
byte_pos = omega arith

pub cells_nil : (w : ℕ) → cells w 0 ≡ 0
unfolding cells
cells_nil w = refl

pub cells_zero : (ℓ : ℕ) → cells 0 ℓ ≡ 0
unfolding cells
cells_zero zero = refl
cells_zero (suc i) = digit_zero 256 i byte_pos

pub cells_lt : (w ℓ : ℕ) → cells w ℓ < 256
unfolding cells
cells_lt w zero = byte_pos
cells_lt w (suc i) = digit_lt 256 w i byte_pos

pub cells_past : (w ℓ : ℕ) → w < word → most < ℓ → cells w ℓ ≡ 0
unfolding cells
cells_past w zero h l = refl
cells_past w (suc i) h l = digit_past 256 most w i byte_pos h (le_of_suc-le-suc l)

-- two numbers that pack the same are the same
pub same_cells : (v w : ℕ) → v < word → w < word → ((ℓ : ℕ) → cells v ℓ ≡ cells w ℓ) → v ≡ w
unfolding cells
same_cells v w p q e = same_digits 256 most v w byte_pos p q (λ i _. e (suc i))

pub cells_and : (a b ℓ : ℕ) → cells (bit_and a b) ℓ ≡ bit_and (cells a ℓ) (cells b ℓ)
unfolding cells
cells_and a b zero = refl
cells_and a b (suc i) = digit_and 8 a b i

pub cells_or : (a b ℓ : ℕ) → cells (bit_or a b) ℓ ≡ bit_or (cells a ℓ) (cells b ℓ)
unfolding cells
cells_or a b zero = refl
cells_or a b (suc i) = digit_or 8 a b i

pub cells_xor : (a b ℓ : ℕ) → cells (bit_xor a b) ℓ ≡ bit_xor (cells a ℓ) (cells b ℓ)
unfolding cells
cells_xor a b zero = refl
cells_xor a b (suc i) = digit_xor 8 a b i

same_suc : (i x : ℕ) → eqb i x ≡ eqb (suc i) (suc x)
same_suc i x = go (ℕ_discrete i x)
  where
    go : Dec (i ≡ x) → eqb i x ≡ eqb (suc i) (suc x)
    go (yes e) = eq-eqb i x e ∙ sym (eq-eqb (suc i) (suc x) (ap suc e))
    go (no n) = ne_eqb i x n ∙ sym (ne_eqb (suc i) (suc x) (λ (e : suc i ≡ suc x). n (omega arith)))

-- the lowest field, and the others
pub first_field : (x : ℕ) → cells x 1 ≡ x % 256
unfolding cells digit
first_field x = refl

pub next_field : (x i : ℕ) → cells (x / 256) (suc i) ≡ cells x (suc (suc i))
unfolding cells digit
next_field x i = refl

-- ---- as code works it out
pub cell_none : (w l : ℕ) → l ≡ 0 → 0 ≡ cells w l
cell_none w l e = rw e (sym (cells_nil w))

pub cell_law : (w l : ℕ) → ¬ (l ≡ 0) → w / 2 ^ (8 * (l - 1)) % 256 ≡ cells w l
unfolding cells
cell_law w zero n = absurd (n refl)
cell_law w (suc i) n = let e : suc i - 1 ≡ i = omega arith in rw (e, pow_bytes i) (digit_is 256 w i)

pub placed_law : (d l : ℕ) → d < 256 → 1 ≤ l → l ≤ most → Placed d l ((d * 2 ^ (8 * (l - 1))) % word)
unfolding cells
placed_law d zero h n m ℓ = absurd (not-suc-le-zero n)
placed_law d (suc x) h n m ℓ =
    let e : suc x - 1 ≡ x = omega arith in
    rw (e, pow_bytes x, mod-eq_of_lt fits) (go ℓ)
  where
    fits : d * 256 ^ x < word
    fits =
        lt_of_lt_of_le (subst (λ (y : ℕ). y < 256 * 256 ^ x) (add-zero (d * 256 ^ x)) (digits_lt {r = 0} {c = 256 ^ x} h (one-le-pow x 256 byte_pos)))
        (subst (λ (y : ℕ). y ≤ word) (pow-succ' 256 x) (pow-le-pow_right {n = 256} byte_pos {i = suc x} {j = most} m))

    go : (ℓ : ℕ) → cells (d * 256 ^ x) ℓ ≡ pick (eqb ℓ (suc x)) d 0
    go zero = rw (ne_eqb 0 (suc x) (λ e. absurd (omega arith)))
    go (suc i) = digit_placed 256 d x i h ∙ ap (λ (b : Bool). pick b d 0) (same_suc i x)

pub bit_law : (l : ℕ) → l ≤ suc most → (1 * 2 ^ l) % word ≡ 2 ^ l
bit_law l h = rw (one-mul (2 ^ l)) (mod-eq_of_lt (lt_of_le_of_lt (pow-le-pow_right {n = 2} (omega arith) h) (omega arith)))

-- spread's product, mask and product
abbrev spread_of : ℕ → ℕ
spread_of m = bit_or (bit_and (m % 128 * 567382630219905) 282578800148737) (m / 128 * 72057594037927936 % word) * 255

-- at location ℓ, and for a set m, they are right
spread_at : ℕ → ℕ → Bool
spread_at m ℓ = eqb (cells (spread_of m) ℓ) (pick (in_part m ℓ) 255 0)

spread_for : ℕ → Bool
spread_for m = andb (ltb (spread_of m) word) (all (suc most) (spread_at m))

spread_all : all full spread_for ≡ true
unfolding all digit in_part cells spread_at spread_for
spread_all = refl

module _ (m : ℕ) (h : m < full) where
  checked : (spread_of m < word) × ((ℓ : ℕ) → ℓ < suc most → cells (spread_of m) ℓ ≡ pick (in_part m ℓ) 255 0)
  unfolding spread_at spread_for
  checked =
      (is_and (ltb (spread_of m) word) (all (suc most) (spread_at m)) (is_lt (spread_of m) word)
      (is_all (spread_at m) (λ ℓ. cells (spread_of m) ℓ ≡ pick (in_part m ℓ) 255 0) (suc most) (λ ℓ _. is_eq (cells (spread_of m) ℓ) (pick (in_part m ℓ) 255 0)))).to
      ((is_all spread_for (λ i. spread_for i ≡ true) full (λ i _. is_self (spread_for i))).to spread_all m h)

  pub spread_small : spread_of m < word
  spread_small = checked.0

  pub spread_law : Spread m (spread_of m)
  spread_law ℓ = go (dec_lt ℓ (suc most))
    where
      go : Dec (ℓ < suc most) → cells (spread_of m) ℓ ≡ pick (in_part m ℓ) 255 0
      go (yes l) = checked.1 ℓ l
      go (no l) = cells_past (spread_of m) ℓ spread_small (omega arith) ∙ sym (ap (λ (b : Bool). pick b 255 0) (in_past most m ℓ h (omega arith)))
