-- From a test on a packed heap to the block that is passed over. Assumes nothing.
use Rattle.std.specs.Prelude.{◌≡◌, Bool, true, false, List, ℕ, zero, suc, ◌+◌, ◌-◌, ◌/◌, ◌%◌, ◌^◌, ◌<◌, ◌≤◌, eqb}
use Rattle.std.proofs.Math.Path.{sym}
use Rattle.std.proofs.Common.{◌∙◌, ap, pow-suc, arith, eqb-true}
use Rattle.std.proofs.Math.Nat.{div-div-eq-div-mul}
use Rattle.logic.specs.Heap.{Heap}
use Rattle.logic.specs.Tests.{in_part, digit}
use Rattle.cells.specs.Cells.{most, cells}
use Rattle.cells.specs.Bits.{digit_is}
use Rattle.skips.proofs.HereLaws.{worse_here}
use Rattle.levels.specs.Levels.{Worse}
use Rattle.rootfacts.specs.RootFacts.{digits_at}
use Rattle.rootfacts.specs.RootLaws.{digit_goes, crowded_goes}
use Rattle.blocks.specs.Over.{Full, BothIn, Over}

-- ---- bits

in_bit : (m i : ℕ) → m / 2 ^ i % 2 ≡ 1 → in_part m (suc i) ≡ true
unfolding in_part
in_bit m i e = let z : digit 2 m i ≡ 1 = sym (digit_is 2 m i) ∙ e in rw z

pub both_law : (u a : ℕ) → 1 ≤ a → eqb (u / 2 ^ (a - 1) % 4) 3 ≡ true → BothIn u a
both_law u zero l e = absurd (omega arith)
both_law u (suc i) l e =
    let x = u / 2 ^ i in
    let z : x % 4 ≡ 3 = ap (λ (y : ℕ). u / 2 ^ y % 4) (less i) ∙ eqb-true (u / 2 ^ (suc i - 1) % 4) 3 e in
    let half : u / 2 ^ suc i ≡ x / 2 = ap (λ (y : ℕ). u / y) (pow-suc 2 i) ∙ sym (div-div-eq-div-mul u (2 ^ i) 2) in
    (in_bit u i (omega arith), in_bit u (suc i) (ap (λ (y : ℕ). y % 2) half ∙ omega arith))
  where
    less : (i : ℕ) → i ≡ suc i - 1
    less i = omega arith

-- ---- blocks

module _ (t : List ℕ) (u n w : ℕ) (ln : n ≤ most) (kh : Heap n (cells w)) (j : ℕ) (lj : j < n) where
  pub over_digit : (d : ℕ) → d ≡ cells w (j + 1) → (r : Bool) → r ≡ in_part (digits_at t (j + 1)) (suc d) → r ≡ false → Over t u n w j
  unfolding Over
  over_digit d e r is none π v p F s ks ku kt =
      digit_goes π v n p F s (cells w) ks kh t kt j (omega arith) (j + 1) (omega arith) (omega arith)
      (ap (λ (x : ℕ). in_part (digits_at t (j + 1)) (suc x)) (sym e) ∙ sym is ∙ none)

  pub over_full : (ℓ : ℕ) → ℓ ≤ n → Full t n w j ℓ → Over t u n w j
  unfolding Over
  over_full ℓ l f π v p F s ks ku kt = crowded_goes π v n p F s (cells w) ks kh t kt j (omega arith) ℓ l f

  pub over_worse : (a : ℕ) → 1 ≤ a → BothIn u a × Worse a j w → Over t u n w j
  unfolding Over
  over_worse a la q π v p F s ks ku kt =
      let here = (ku.member a).to q.0.0 in
      let next = (ku.member (suc a)).to q.0.1 in
      let x = q.1 in
      worse_here π v n p F s (cells w) ks kh j (omega arith) a la next.0 here.1 next.1 x.r 256 (most - x.r) x.known x.pair (omega (arith, x.inside)) (omega arith) x.lower
