-- From one subset of a set of bits to the next, upward: (s + (2^k - a)) & a is the least subset above s. Assumes nothing.
use Rattle.std.specs.Prelude.{◌≡◌, refl, Bool, true, false, ℕ, zero, suc, ◌+◌, ◌*◌, ◌-◌, ◌/◌, ◌%◌, ◌^◌, ◌<◌, ◌≤◌, min}
use Rattle.std.proofs.Common.{sym, ◌∙◌, ap, ap₂, arith}
use native.Mathlib.Nat.{not-suc-le-zero, pow-suc, pow-zero, div-add-mod', mod-lt, le_trans, le_of_eq, lt_of_le_of_lt}
use Rattle.std.proofs.Math.Decide.{dec_lt}
use Rattle.std.proofs.Math.Arith.{digits_div, digits_mod}
use Rattle.std.specs.Int.Bits.{bit_and, and_step, and_zero_r}
use Rattle.std.proofs.lemmas.Nat.{and_shr, and_mod, and_le_r}
use Rattle.logic.specs.Tests.{andb, in_part}
use Rattle.cells.specs.Cells.{Sub}
use Rattle.cells.specs.Sets.{in_and, same_set}

two : 0 < 2
two = omega arith

half : (s a : ℕ) → Sub s a → Sub (s / 2) (a / 2)
half s a e = sym (and_shr s a 1) ∙ ap (λ (x : ℕ). x / 2) e

odd : (s a : ℕ) → Sub s a → s % 2 ≤ a % 2
odd s a e = le_trans (le_of_eq (sym (ap (λ (x : ℕ). x % 2) e) ∙ and_mod s a 1)) (and_le_r (s % 2) (a % 2))

and_of : (x q r a : ℕ) → x ≡ q * 2 + r → r < 2 → bit_and x a ≡ bit_and q (a / 2) * 2 + min r (a % 2)
and_of x q r a e l = rw e (and_step (q * 2 + r) a ∙ rw (digits_div q l, digits_mod q l))

min_0 : (a : ℕ) → min 0 a ≡ 0
min_0 a = native.Mathlib.Nat.zero-min a

min_r : (r a : ℕ) → r ≤ a → min r a ≡ r
min_r r a l = native.Mathlib.Nat.min-eq_left l

record Halves (k s a c : ℕ) : Type 0 where
  es : s / 2 * 2 + s % 2 ≡ s
  ea : a / 2 * 2 + a % 2 ≡ a
  ls : s % 2 ≤ a % 2
  la : a % 2 < 2
  sub : Sub (s / 2) (a / 2)
  c' : ℕ
  ec : c' * 2 + (1 - a % 2) ≡ c
  full : c' + a / 2 + 1 ≡ 2 ^ k

halves : (k s a c : ℕ) → c + a + 1 ≡ 2 ^ suc k → Sub s a → Halves k s a c
halves k s a c f e =
    let ea = div-add-mod' a 2 in
    let la = mod-lt a {m = 2} two in
    let ec = div-add-mod' c 2 in
    let lc = mod-lt c {m = 2} two in
    let p : 2 ^ suc k ≡ 2 ^ k * 2 = pow-suc 2 k in
    record { es = div-add-mod' s 2; ea = ea; ls = odd s a e; la = la; sub = half s a e; c' = c / 2; ec = omega arith; full = omega arith }

none : (s a c : ℕ) → c + a + 1 ≡ 2 ^ 0 → Sub s a → s ≡ 0
none s a c f e =
    let p : 2 ^ 0 ≡ 1 = pow-zero 2 in
    let z : a ≡ 0 = omega arith in
    sym e ∙ rw z (and_zero_r s)

comp : (k s a c : ℕ) → c + a + 1 ≡ 2 ^ k → Sub s a → bit_and (s + c) a ≡ s
comp zero s a c f e =
    let p : 2 ^ 0 ≡ 1 = pow-zero 2 in
    let z : a ≡ 0 = omega arith in
    rw z (and_zero_r (s + c)) ∙ sym (none s a c f e)
comp (suc k) s a c f e =
    let h = halves k s a c f e in
    let es = h.es in
    let ih = comp k (s / 2) (a / 2) h.c' h.full h.sub in
    let r = s % 2 + 1 - a % 2 in
    let lr : r < 2 = omega (arith, h.la, h.ls, h.ec) in
    let q : s + c ≡ (s / 2 + h.c') * 2 + r = omega (arith, h.la, h.ls, h.ec) in
    let m : min r (a % 2) ≡ s % 2 = low (s % 2) (a % 2) h.ls h.la in
    and_of (s + c) (s / 2 + h.c') r a q lr ∙ ap₂ (λ (x y : ℕ). x * 2 + y) ih m ∙ es
  where
    low : (b d : ℕ) → b ≤ d → d < 2 → min (b + 1 - d) d ≡ b
    low zero zero l m = refl
    low zero (suc zero) l m = refl
    low (suc zero) (suc zero) l m = refl
    low (suc b) zero l m = absurd (not-suc-le-zero l)
    low (suc (suc b)) (suc zero) l m = let z : 3 ≤ 2 = omega arith in absurd (omega arith)
    low b (suc (suc d)) l m = absurd (omega arith)

-- what a step gives, in halves
data Stepped (s a x s' a' x' : ℕ) : Type 0 where
  up : x ≡ suc s → s % 2 < a % 2 → Stepped s a x s' a' x'
  on : x ≡ x' * 2 → s % 2 ≡ a % 2 → Stepped s a x s' a' x'

stepped : (k s a c : ℕ) (f : c + a + 1 ≡ 2 ^ suc k) (e : Sub s a) (h : Halves k s a c) → Stepped s a (bit_and (s + c + 1) a) (s / 2) (a / 2) (bit_and (s / 2 + h.c' + 1) (a / 2))
stepped k s a c f e h = go (dec_lt (s % 2) (a % 2))
  where
    go : Dec (s % 2 < a % 2) → Stepped s a (bit_and (s + c + 1) a) (s / 2) (a / 2) (bit_and (s / 2 + h.c' + 1) (a / 2))
    go (yes l) =
        let q : s + c + 1 ≡ (s / 2 + h.c') * 2 + 1 = omega (arith, h.la, h.ls, h.ec, h.es) in
        let ih = comp k (s / 2) (a / 2) h.c' h.full h.sub in
        let m : min 1 (a % 2) ≡ 1 = min_r 1 (a % 2) (omega arith) in
        let z : s / 2 * 2 + 1 ≡ suc s = omega (arith, h.la, h.es) in
        up (and_of (s + c + 1) (s / 2 + h.c') 1 a q (omega arith) ∙ ap₂ (λ (x y : ℕ). x * 2 + y) ih m ∙ z) l
    go (no l) =
        let q : s + c + 1 ≡ (s / 2 + h.c' + 1) * 2 + 0 = omega (arith, h.la, h.ls, h.ec, h.es) in
        on (and_of (s + c + 1) (s / 2 + h.c' + 1) 0 a q (omega arith) ∙ ap (λ (y : ℕ). bit_and (s / 2 + h.c' + 1) (a / 2) * 2 + y) (min_0 (a % 2)) ∙ omega arith) (omega (arith, h.ls))

-- no subset lies between s and the next
pub next_least : (k s a c t : ℕ) → c + a + 1 ≡ 2 ^ k → Sub s a → Sub t a → s < t → bit_and (s + c + 1) a ≤ t
next_least zero s a c t f e d l = let z = none t a c f d in absurd (omega arith)
next_least (suc k) s a c t f e d l =
    go (halves k s a c f e)
    (λ h m. next_least k (s / 2) (a / 2) h.c' (t / 2) h.full h.sub (half t a d) m)
    (stepped k s a c f e (halves k s a c f e))
  where
    go : (h : Halves k s a c) → ((h : Halves k s a c) → s / 2 < t / 2 → bit_and (s / 2 + h.c' + 1) (a / 2) ≤ t / 2) → Stepped s a (bit_and (s + c + 1) a) (s / 2) (a / 2) (bit_and (s / 2 + h.c' + 1) (a / 2)) → bit_and (s + c + 1) a ≤ t
    go h ih (up x o) = omega arith
    go h ih (on x o) =
        let ls = odd t a d in
        let et : t / 2 * 2 + t % 2 ≡ t = div-add-mod' t 2 in
        let m : s / 2 < t / 2 = omega (arith, et, h.es) in
        let i = ih h m in
        omega (arith, et)

-- and it is above s
pub next_above : (k s a c : ℕ) → c + a + 1 ≡ 2 ^ k → Sub s a → s < a → s < bit_and (s + c + 1) a
next_above zero s a c f e l = let p : 2 ^ 0 ≡ 1 = pow-zero 2 in absurd (omega arith)
next_above (suc k) s a c f e l =
    go (halves k s a c f e)
    (λ h m. next_above k (s / 2) (a / 2) h.c' h.full h.sub m)
    (stepped k s a c f e (halves k s a c f e))
  where
    go : (h : Halves k s a c) → ((h : Halves k s a c) → s / 2 < a / 2 → s / 2 < bit_and (s / 2 + h.c' + 1) (a / 2)) → Stepped s a (bit_and (s + c + 1) a) (s / 2) (a / 2) (bit_and (s / 2 + h.c' + 1) (a / 2)) → s < bit_and (s + c + 1) a
    go h ih (up x o) = omega arith
    go h ih (on x o) =
        let m : s / 2 < a / 2 = omega (arith, h.ea, h.es) in
        let i = ih h m in
        omega (arith, h.es, h.la, h.ls)

and_twice : (p q : Bool) → andb (andb p q) q ≡ andb p q
and_twice true true = refl
and_twice true false = refl
and_twice false q = refl

-- and it is a subset
pub and_sub : (k x a : ℕ) → a < 2 ^ k → Sub (bit_and x a) a
and_sub k x a l =
    same_set k (bit_and (bit_and x a) a) (bit_and x a) (lt_of_le_of_lt (and_le_r (bit_and x a) a) l) (lt_of_le_of_lt (and_le_r x a) l)
    (λ ℓ. in_and (bit_and x a) a ℓ ∙ rw (in_and x a ℓ) (and_twice (in_part x ℓ) (in_part a ℓ)))
