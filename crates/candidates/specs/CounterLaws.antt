-- Laws of the counter: candidate 0, and the number after a stack's and a heap's. Assumes nothing.
use Rattle.std.specs.Prelude.{◌≡◌, ℕ, zero, suc, ◌+◌, ◌*◌, ◌%◌, ◌^◌, ◌<◌, ◌≤◌}
use Rattle.std.proofs.Common.{sym, subst, ◌∙◌, ap, zero-le, zero-mul, one-mul, add-mul, mod-eq_of_lt, pow-suc, mul-le-mul, le_trans, arith}
use Rattle.std.proofs.Math.Nat.{mod_self, pow-le-pow_left, pow-le-pow_right}
use Rattle.std.proofs.Math.Decide.{dec_lt}
use Rattle.std.proofs.Math.Arith.{digits_lt}
use Rattle.logic.specs.Tests.{digit}
use Rattle.logic.proofs.Digits.{digit_num}
use Rattle.logic.specs.Candidates.{total, InBase, value_of}
use Rattle.logic.proofs.NumberLaws.{num_of_none}
use Rattle.cells.specs.Cells.{most, word, cells}
use Rattle.cells.specs.Bits.{digit_zero}
use Rattle.cells.specs.Packing.{cells_zero, same_cells}
use Rattle.candidates.specs.declared.Candidate.{Candidate}
use Rattle.candidates.specs.Counter.{WithinBounds}

abbrev pub candidate : ℕ → ℕ → ℕ → ℕ → Candidate
candidate h s v n = record { heap = h; stack = s; vars = v; locs = n }

pub value_zero : (b k : ℕ) → value_of b k (cells 0) ≡ 0
value_zero b k = num_of_none b k (λ i. cells 0 (suc i)) (λ i. cells_zero (suc i))

-- only 0 has the number 0
pub zero_value : (b k w : ℕ) → w < word → InBase b k (cells w) → value_of b k (cells w) ≡ 0 → w ≡ 0
zero_value b k w l q e = same_cells w 0 l (omega arith) (λ ℓ. each ℓ ∙ sym (cells_zero ℓ))
  where
    at : (i : ℕ) → Dec (i < k) → cells w (suc i) ≡ 0
    at i (yes h) =
        sym (digit_num b k (λ j. cells w (suc j)) (λ j. q.low (suc j)) i h)
        ∙ ap (λ (x : ℕ). digit b x i) e
        ∙ digit_zero b i (omega (arith, q.low 0))
    at i (no h) = q.past (suc i) (omega arith)

    each : (ℓ : ℕ) → cells w ℓ ≡ 0
    each zero = q.nil
    each (suc i) = at i (dec_lt i k)

pub first_range : (v n : ℕ) → v ≤ most → n ≤ most → WithinBounds (candidate 0 0 v n)
first_range v n lv ln =
    record {
      few_vars = lv;
      few_locs = ln;
      stack = record { nil = cells_zero 0; low = λ x. subst (λ (y : ℕ). y ≤ n) (sym (cells_zero x)) zero-le; past = λ x _. cells_zero x };
      heap = record { nil = cells_zero 0; past = λ ℓ _. cells_zero ℓ; low = λ ℓ. subst (λ (y : ℕ). y ≤ suc n) (sym (cells_zero ℓ)) zero-le };
    }

-- ---- the number after S * P + H, where there are P numbers below and Q above

pub number_low : (H S P Q : ℕ) → S < Q → H + 1 < P → S * P + (H + 1) ≡ (S * P + H + 1) % (Q * P)
number_low H S P Q ls lh =
    sym (mod-eq_of_lt (digits_lt ls lh)) ∙ ap (λ (x : ℕ). x % (Q * P)) (omega arith)

pub number_carried : (H S P Q : ℕ) → S < Q → H + 1 ≡ P → (S + 1) % Q * P + 0 ≡ (S * P + H + 1) % (Q * P)
number_carried H S P Q ls e = go (dec_lt (S + 1) Q)
  where
    next : S * P + H + 1 ≡ (S + 1) * P
    next = omega (arith, add-mul S 1 P, one-mul P)

    go : Dec (S + 1 < Q) → (S + 1) % Q * P + 0 ≡ (S * P + H + 1) % (Q * P)
    go (yes l) =
        ap (λ (x : ℕ). x * P + 0) (mod-eq_of_lt l)
        ∙ sym (mod-eq_of_lt (digits_lt {r = 0} l (omega arith)))
        ∙ ap (λ (x : ℕ). x % (Q * P)) (omega (arith, next))
    go (no l) =
        let last : S + 1 ≡ Q = omega arith in
        ap (λ (x : ℕ). x % Q * P + 0) last
        ∙ ap (λ (x : ℕ). x * P + 0) (mod_self Q)
        ∙ ap (λ (x : ℕ). x + 0) (zero-mul P)
        ∙ sym (mod_self (Q * P))
        ∙ ap (λ (x : ℕ). x % (Q * P)) (sym (next ∙ ap (λ (x : ℕ). x * P) last))

-- ---- how many candidates there are fits a number

pub power_low : (b k : ℕ) → b ≤ 10 → k ≤ most → b ^ k ≤ 10 ^ most
power_low b k h l = le_trans (pow-le-pow_left h k) (pow-le-pow_right {n = 10} (omega arith) l)

pub power_more : (b i k : ℕ) → b ≤ 10 → k ≤ most → i < k → b ^ i * b ≤ 10 ^ most
power_more b i k h l m = subst (λ (x : ℕ). x ≤ 10 ^ most) (pow-suc b i) (power_low b (suc i) h (omega arith))

pub total_low : (v n : ℕ) → v ≤ most → n ≤ most → total v n ≤ 10 ^ most * 10 ^ most
total_low v n lv ln = mul-le-mul (power_low (n + 1) v (omega arith) lv) (power_low (n + 2) n (omega arith) ln)

pub total_fits : (x y : ℕ) → x ≤ 10 ^ most → y ≤ 10 ^ most → x * y < word
total_fits x y h l = let q = mul-le-mul h l in omega arith
