-- The order of numbers by their digits, in any base. Assumes nothing.
use Rattle.std.specs.Prelude.{◌≡◌, ℕ, zero, suc, ◌+◌, ◌*◌, ◌<◌}
use Rattle.std.proofs.Common.{sym, ◌∙◌, ap, not-suc-le-zero, le_of_suc-le-suc, arith}
use Rattle.std.proofs.Math.Decide.{dec_lt}
use Rattle.std.proofs.Math.Arith.{digits_lt}
use Rattle.logic.specs.Tests.{digit}
use Rattle.logic.specs.Digits.{num_of}
use Rattle.logic.proofs.Digits.{digit_num}
use Rattle.logic.proofs.NumberLaws.{num_of_same}
use Rattle.skips.specs.Order.{Lower}

pub lower_lt : (b k : ℕ) (d e : ℕ → ℕ) → ((i : ℕ) → d i < b) → Lower k d e → num_of b k d < num_of b k e
unfolding num_of
lower_lt b zero d e l q = absurd (not-suc-le-zero q.within)
lower_lt b (suc k) d e l q = go q.place q.within q.less q.same (lower_lt b k (λ i. d (suc i)) (λ i. e (suc i)) (λ i. l (suc i)))
  where
    go : (p : ℕ) → p < suc k → d p < e p → ((i : ℕ) → p < i → i < suc k → d i ≡ e i) → (Lower k (λ i. d (suc i)) (λ i. e (suc i)) → num_of b k (λ i. d (suc i)) < num_of b k (λ i. e (suc i))) → num_of b k (λ i. d (suc i)) * b + d 0 < num_of b k (λ i. e (suc i)) * b + e 0
    go zero m f g r =
        omega (arith, f, ap (λ (x : ℕ). x * b) (num_of_same b k (λ i. d (suc i)) (λ i. e (suc i)) (λ i w. g (suc i) (omega arith) (omega arith))))
    go (suc p) m f g r =
        let y = r (record { place = p; within = le_of_suc-le-suc m; less = f; same = λ i w u. g (suc i) (omega arith) (omega arith) }) in
        omega (arith, digits_lt {q = num_of b k (λ i. d (suc i))} {m = num_of b k (λ i. e (suc i))} {r = d 0} {c = b} y (l 0))

pub lt_lower : (b k : ℕ) (d e : ℕ → ℕ) → ((i : ℕ) → d i < b) → ((i : ℕ) → e i < b) → num_of b k d < num_of b k e → Lower k d e
unfolding num_of
lt_lower b zero d e l m h = absurd (not-suc-le-zero h)
lt_lower b (suc k) d e l m h =
    go (dec_lt (num_of b k (λ i. d (suc i))) (num_of b k (λ i. e (suc i)))) (dec_lt (num_of b k (λ i. e (suc i))) (num_of b k (λ i. d (suc i))))
    (lt_lower b k (λ i. d (suc i)) (λ i. e (suc i)) (λ i. l (suc i)) (λ i. m (suc i)))
  where
    up : Lower k (λ i. d (suc i)) (λ i. e (suc i)) → Lower (suc k) d e
    up q = record { place = suc q.place; within = omega (arith, q.within); less = q.less; same = same' }
      where
        same' : (i : ℕ) → suc q.place < i → i < suc k → d i ≡ e i
        same' zero w u = absurd (not-suc-le-zero w)
        same' (suc i) w u = q.same i (le_of_suc-le-suc w) (le_of_suc-le-suc u)

    level : num_of b k (λ i. d (suc i)) ≡ num_of b k (λ i. e (suc i)) → Lower (suc k) d e
    level z = record { place = 0; within = omega arith; less = omega (arith, h, ap (λ (x : ℕ). x * b) z); same = same' }
      where
        same' : (i : ℕ) → 0 < i → i < suc k → d i ≡ e i
        same' zero w u = absurd (not-suc-le-zero w)
        same' (suc i) w u =
            sym (digit_num b k (λ i. d (suc i)) (λ i. l (suc i)) i (le_of_suc-le-suc u))
            ∙ ap (λ (x : ℕ). digit b x i) z
            ∙ digit_num b k (λ i. e (suc i)) (λ i. m (suc i)) i (le_of_suc-le-suc u)

    go : Dec (num_of b k (λ i. d (suc i)) < num_of b k (λ i. e (suc i))) → Dec (num_of b k (λ i. e (suc i)) < num_of b k (λ i. d (suc i))) → (num_of b k (λ i. d (suc i)) < num_of b k (λ i. e (suc i)) → Lower k (λ i. d (suc i)) (λ i. e (suc i))) → Lower (suc k) d e
    go (yes q) w r = up (r q)
    go (no q) (yes w) r =
        absurd (omega (arith, h, digits_lt {q = num_of b k (λ i. e (suc i))} {m = num_of b k (λ i. d (suc i))} {r = e 0} {c = b} w (m 0)))
    go (no q) (no w) r = level (omega arith)
