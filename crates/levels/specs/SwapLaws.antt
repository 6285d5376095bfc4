-- Laws of the loop that exchanges two locations. Assumes nothing.
use Rattle.std.specs.Prelude.{◌≡◌, refl, ℕ, zero, suc, ◌+◌, ◌-◌, ◌<◌, ◌≤◌, eqb, leb}
use Rattle.std.proofs.Common.{sym, ◌∙◌, ap, arith, eq-eqb, ne_eqb, le-leb}
use Rattle.std.proofs.Math.Decide.{dec_le, ℕ_discrete}
use Rattle.std.specs.Int.Bits.{bit_or}
use Rattle.std.proofs.lemmas.Bool.{lt-leb}
use Rattle.logic.specs.Tests.{pick}
use Rattle.laws.specs.Renumbering.{renumbered_digit, new_heap}
use Rattle.cells.specs.Cells.{most, word, cells, Placed}
use Rattle.cells.specs.Heaps.{put_at}
use Rattle.cells.specs.Packing.{cells_zero, cells_past}
use Rattle.laws.specs.Exchange.{exchange, exchanged_heap}
use Rattle.laws.proofs.ExchangeLaws.{exchange_first, exchange_second, exchange_other}
use Rattle.levels.specs.Levels.{Swapped}

pub exchanged_first : (a l : ℕ) → l ≡ a → a + 1 ≡ exchange a (suc a) l
exchanged_first a l e = omega (arith, exchange_first a (suc a) l e)

pub exchanged_second : (a l : ℕ) → l ≡ a + 1 → a ≡ exchange a (suc a) l
exchanged_second a l e = sym (exchange_second a (suc a) l (omega arith))

pub exchanged_other : (a l : ℕ) → ¬ (l ≡ a) → ¬ (l ≡ a + 1) → l ≡ exchange a (suc a) l
exchanged_other a l e f = sym (exchange_other a (suc a) l e (λ (z : l ≡ suc a). f (omega arith)))

-- an exchange of a and a + 1 stays below a bound that is over both
pub exchanged_low : (a l m : ℕ) → suc a ≤ m → l ≤ m → exchange a (suc a) l ≤ m
exchanged_low a l m q w = go (ℕ_discrete l a) (ℕ_discrete l (suc a))
  where
    go : Dec (l ≡ a) → Dec (l ≡ suc a) → exchange a (suc a) l ≤ m
    go (yes e) f = omega (arith, exchange_first a (suc a) l e)
    go (no e) (yes f) = omega (arith, exchange_second a (suc a) l f)
    go (no e) (no f) = omega (arith, exchange_other a (suc a) l e f)

pub digit_none : (a d : ℕ) → d ≡ 0 → (0 ≡ renumbered_digit (exchange a (suc a)) d) × (0 < 256)
digit_none a d e = (ap (renumbered_digit (exchange a (suc a))) (sym e), omega arith)

pub digit_some : (a d x : ℕ) → a < most → d < 256 → ¬ (d ≡ 0) → x ≡ exchange a (suc a) (d - 1) → (x + 1 ≡ renumbered_digit (exchange a (suc a)) d) × (x + 1 < 256)
digit_some a zero x la ld f e = absurd (f refl)
digit_some a (suc d) x la ld f e =
    let z : suc d - 1 ≡ d = omega arith in
    let y : x ≡ exchange a (suc a) d = e ∙ ap (exchange a (suc a)) z in
    (omega (arith, y), omega (arith, y, exchanged_low a d 254 (omega arith) (omega arith)))

-- r is right up to i, and has nothing above
pub record Swapping (a w i r : ℕ) : Type 0 where
  pub up_to : i ≤ most
  pub is : (ℓ : ℕ) → cells r ℓ ≡ pick (leb ℓ i) (exchanged_heap a (suc a) (cells w) ℓ) 0

nil_is : (a w : ℕ) → 1 ≤ a → exchanged_heap a (suc a) (cells w) 0 ≡ 0
unfolding new_heap cells
nil_is a w l = ap (λ (x : ℕ). renumbered_digit (exchange a (suc a)) (cells w x)) (exchange_other a (suc a) 0 (λ (e : 0 ≡ a). omega arith) (λ (e : 0 ≡ suc a). omega arith))

pub swapping_none : (a w : ℕ) → 1 ≤ a → Swapping a w 0 0
swapping_none a w l = record { up_to = omega arith; is = λ ℓ. cells_zero ℓ ∙ sym (at ℓ) }
  where
    at : (ℓ : ℕ) → pick (leb ℓ 0) (exchanged_heap a (suc a) (cells w) ℓ) 0 ≡ 0
    at zero = nil_is a w l
    at (suc ℓ) = rw (lt-leb (suc ℓ) 0 (omega arith))

pub swapping_more : (a w i r x c d q : ℕ) → Swapping a w i r → i < most → x ≡ exchange a (suc a) (i + 1) → c ≡ cells w x → d ≡ renumbered_digit (exchange a (suc a)) c → Placed d (i + 1) q → Swapping a w (i + 1) (bit_or r q)
unfolding new_heap
swapping_more a w i r x c d q t l ex ec ed p =
    record { up_to = omega arith; is = λ ℓ. put_at r d (i + 1) q none p ℓ ∙ at ℓ (ℕ_discrete ℓ (i + 1)) (dec_le ℓ i) }
  where
    none : cells r (i + 1) ≡ 0
    none = t.is (i + 1) ∙ rw (lt-leb (i + 1) i (omega arith))

    digit_is : d ≡ renumbered_digit (exchange a (suc a)) (cells w (exchange a (suc a) (i + 1)))
    digit_is = ed ∙ ap (renumbered_digit (exchange a (suc a))) (ec ∙ ap (cells w) ex)

    at : (ℓ : ℕ) → Dec (ℓ ≡ i + 1) → Dec (ℓ ≤ i) → pick (eqb ℓ (i + 1)) d (cells r ℓ) ≡ pick (leb ℓ (i + 1)) (renumbered_digit (exchange a (suc a)) (cells w (exchange a (suc a) ℓ))) 0
    at ℓ (yes e) z =
        rw (eq-eqb ℓ (i + 1) e, le-leb ℓ (i + 1) (omega arith))
        (digit_is ∙ ap (λ (k : ℕ). renumbered_digit (exchange a (suc a)) (cells w (exchange a (suc a) k))) (sym e))
    at ℓ (no e) (yes m) = rw (ne_eqb ℓ (i + 1) e, le-leb ℓ (i + 1) (omega arith)) (t.is ℓ ∙ rw (le-leb ℓ i m))
    at ℓ (no e) (no m) = rw (ne_eqb ℓ (i + 1) e, lt-leb ℓ (i + 1) (omega arith)) (t.is ℓ ∙ rw (lt-leb ℓ i (omega arith)))

pub swapping_done : (a w i r : ℕ) → a < most → w < word → Swapping a w i r → most ≤ i → Swapped a w r
unfolding Swapped new_heap
swapping_done a w i r la lw t m ℓ = t.is ℓ ∙ go (dec_le ℓ i)
  where
    go : Dec (ℓ ≤ i) → pick (leb ℓ i) (renumbered_digit (exchange a (suc a)) (cells w (exchange a (suc a) ℓ))) 0 ≡ renumbered_digit (exchange a (suc a)) (cells w (exchange a (suc a) ℓ))
    go (yes l) = rw (le-leb ℓ i l)
    go (no l) =
        rw (lt-leb ℓ i (omega arith))
        (sym (ap (renumbered_digit (exchange a (suc a))) (ap (cells w) (exchange_other a (suc a) ℓ (λ (e : ℓ ≡ a). omega arith) (λ (e : ℓ ≡ suc a). omega arith)) ∙ cells_past w ℓ lw (omega arith))))
