-- A packed heap from one of its bytes up is the number of its digits there. Assumes nothing.
use Rattle.std.specs.Prelude.{◌≡◌, Bool, true, false, ℕ, suc, ◌+◌, ◌-◌, ◌*◌, ◌/◌, ◌^◌, ◌<◌, ◌≤◌, ltb}
use Rattle.std.proofs.Common.{sym, subst, subst₂, ◌∙◌, ap, div-lt_iff_lt-mul, arith, pow-add, ltb-true}
use Rattle.std.proofs.Math.Nat.{one-le-pow}
use Rattle.logic.specs.Tests.{digit}
use Rattle.logic.specs.Digits.{num_of}
use Rattle.logic.proofs.NumberLaws.{num_of_same, num_of_digits}
use Rattle.logic.proofs.Reflect.{false_true}
use Rattle.cells.specs.Cells.{most, word, cells}
use Rattle.cells.specs.Bits.{digit_shr, pow_bytes}
use Rattle.laws.specs.Exchange.{exchanged_heap}
use Rattle.levels.specs.Levels.{Swapped, Worse}

word_from : (w r : ℕ) → w < word → r ≤ most → num_of 256 (most - r) (λ x. cells w (suc (r + x))) ≡ w / 256 ^ r
unfolding cells
word_from w r l m =
    num_of_same 256 (most - r) (λ x. digit 256 w (r + x)) (digit 256 (w / 256 ^ r)) (λ x _. sym (digit_shr 256 w r x))
    ∙ num_of_digits 256 (most - r) (w / 256 ^ r) (omega arith) ((div-lt_iff_lt-mul {k = 256 ^ r} {x = w} {y = 256 ^ (most - r)} (one-le-pow r 256 (omega arith))).1 (subst (λ (y : ℕ). w < y) whole l))
  where
    whole : word ≡ 256 ^ (most - r) * 256 ^ r
    whole = ap (λ (y : ℕ). 256 ^ y) all ∙ pow-add 256 (most - r) r
      where
        all : most ≡ most - r + r
        all = omega arith

pub no_worse : (a j w : ℕ) → false ≡ true → Worse a j w
no_worse a j w e = false_true e

pub worse_by : (a j w g r : ℕ) (b : Bool) → w < word → g < word → Swapped a w g → (j ≤ r) × (j ≡ a → suc a ≤ r) × (r ≤ most) → r < most → b ≡ ltb (g / 2 ^ (8 * r)) (w / 2 ^ (8 * r)) → b ≡ true → Worse a j w
unfolding Swapped
worse_by a j w g r b lw lg s k l e t =
    let m : g / 2 ^ (8 * r) < w / 2 ^ (8 * r) = ltb-true (g / 2 ^ (8 * r)) (w / 2 ^ (8 * r)) (sym e ∙ t) in
    let n : g / 256 ^ r < w / 256 ^ r = subst (λ (y : ℕ). g / y < w / y) (pow_bytes r) m in
    record {
      r = r;
      known = k.0;
      pair = k.1;
      inside = l;
      lower = subst₂ ◌<◌
          (sym (word_from g r lg k.2) ∙ num_of_same 256 (most - r) (λ x. cells g (suc (r + x))) (λ x. exchanged_heap a (suc a) (cells w) (suc (r + x))) (λ x _. s (suc (r + x))))
          (sym (word_from w r lw k.2))
          n;
    }
