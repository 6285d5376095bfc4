-- The number with given digits, and the digits of a number. Assumes nothing.
use Rattle.std.specs.Prelude.{◌≡◌, ℕ, zero, suc, ◌/◌, ◌^◌, ◌<◌}
use Rattle.std.proofs.Common.{◌∙◌, ap, not-suc-le-zero, pow-suc, le_of_suc-le-suc, mod-lt, arith}
use Rattle.std.proofs.Math.Nat.{pow-zero}
use Rattle.std.proofs.Math.Arith.{digits_lt, digits_div, digits_mod}
use Rattle.logic.specs.Tests.{digit}
use Rattle.logic.specs.Digits.{num_of}

pub num_of_lt : (b k : ℕ) (d : ℕ → ℕ) → ((i : ℕ) → d i < b) → num_of b k d < b ^ k
unfolding num_of
num_of_lt b zero d h = rw pow-zero (omega arith)
num_of_lt b (suc k) d h = rw pow-suc (digits_lt (num_of_lt b k (λ i. d (suc i)) (λ i. h (suc i))) (h 0))

pub digit_num : (b k : ℕ) (d : ℕ → ℕ) → ((i : ℕ) → d i < b) → (i : ℕ) → i < k → digit b (num_of b k d) i ≡ d i
unfolding num_of digit
digit_num b zero d h i l = absurd (not-suc-le-zero l)
digit_num b (suc k) d h zero l = digits_mod (num_of b k (λ i. d (suc i))) (h 0)
digit_num b (suc k) d h (suc i) l =
    ap (λ (q : ℕ). digit b q i) (digits_div (num_of b k (λ j. d (suc j))) (h 0))
    ∙ digit_num b k (λ j. d (suc j)) (λ j. h (suc j)) i (le_of_suc-le-suc l)

pub digit_lt : (b m i : ℕ) → 0 < b → digit b m i < b
unfolding digit
digit_lt b m zero h = mod-lt m h
digit_lt b m (suc i) h = digit_lt b (m / b) i h
