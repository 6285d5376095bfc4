-- Laws of numbers in decimal: their digits one by one, and how many there are at most. Assumes nothing.
use Rattle.std.specs.Prelude.{◌≡◌, List, [], ◌∷◌, ◌++◌, ℕ, zero, suc, ◌+◌, ◌/◌, ◌%◌, ◌^◌, ◌<◌, ◌≤◌, length}
use Rattle.std.proofs.Common.{sym, ap, ◌∙◌, div-lt_iff_lt-mul, pow-suc, arith, length-append, lt-ltb, le-ltb}
use Rattle.std.proofs.Math.Decide.{dec_lt}
use Rattle.put.specs.Decimal.{figure, digits, decimal, numbered}

digits_one : (k x : ℕ) → x < 10 → digits (suc k) x ≡ figure x ∷ []
unfolding digits
digits_one k x l = rw (lt-ltb x 10 l)

digits_more : (k x : ℕ) → 10 ≤ x → digits (suc k) x ≡ digits k (x / 10) ++ (figure (x % 10) ∷ [])
unfolding digits
digits_more k x l = rw (le-ltb x 10 l)

-- more room than a number needs changes nothing
digits_enough : (k j x : ℕ) → x < k → x < j → digits k x ≡ digits j x
digits_enough zero j x p q = absurd (omega arith)
digits_enough (suc k) zero x p q = absurd (omega arith)
digits_enough (suc k) (suc j) x p q = go (dec_lt x 10) (λ l. digits_enough k j (x / 10) (omega arith) (omega arith))
  where
    go : Dec (x < 10) → (10 ≤ x → digits k (x / 10) ≡ digits j (x / 10)) → digits (suc k) x ≡ digits (suc j) x
    go (yes l) ih = digits_one k x l ∙ sym (digits_one j x l)
    go (no l) ih =
        let h : 10 ≤ x = omega arith in
        digits_more k x h ∙ ap (λ (r : List ℕ). r ++ (figure (x % 10) ∷ [])) (ih h) ∙ sym (digits_more j x h)

decimal_one : (x : ℕ) → x < 10 → decimal x ≡ figure x ∷ []
unfolding decimal
decimal_one x l = digits_one x x l

decimal_more : (x : ℕ) → 10 ≤ x → decimal x ≡ decimal (x / 10) ++ (figure (x % 10) ∷ [])
unfolding decimal
decimal_more x l =
    digits_more x x l ∙ ap (λ (r : List ℕ). r ++ (figure (x % 10) ∷ [])) (digits_enough x (suc (x / 10)) (x / 10) (omega arith) (omega arith))

-- the same, from a byte that is the digit's
pub figure_one : (x d : ℕ) → x < 10 → d ≡ figure x → d ∷ [] ≡ decimal x
figure_one x d l e = ap (λ (y : ℕ). y ∷ []) e ∙ sym (decimal_one x l)

pub figure_more : (x d : ℕ) → 10 ≤ x → d ≡ figure (x % 10) → decimal (x / 10) ++ (d ∷ []) ≡ decimal x
figure_more x d l e = ap (λ (y : ℕ). decimal (x / 10) ++ (y ∷ [])) e ∙ sym (decimal_more x l)

-- a number below 10^(k + 1) has at most k + 1 digits
pub decimal_short : (k x : ℕ) → x < 10 ^ suc k → length (decimal x) ≤ suc k
decimal_short zero x l = let e = ap length (decimal_one x l) in omega arith
decimal_short (suc k) x l = go (dec_lt x 10) (λ h. decimal_short k (x / 10) h)
  where
    less : x / 10 < 10 ^ suc k
    less = (div-lt_iff_lt-mul {k = 10} {x = x} {y = 10 ^ suc k} (omega arith)).1 (rw (pow-suc 10 (suc k)) at l)

    go : Dec (x < 10) → (x / 10 < 10 ^ suc k → length (decimal (x / 10)) ≤ suc k) → length (decimal x) ≤ suc (suc k)
    go (yes h) ih = let e = ap length (decimal_one x h) in omega arith
    go (no h) ih =
        let e = ap length (decimal_more x (omega arith)) ∙ length-append (decimal (x / 10)) (figure (x % 10) ∷ []) in
        omega (arith, ih less)

-- a number of 64 bits has at most 20 digits
pub numbered_short : (w : List ℕ) (x : ℕ) → x < 2 ^ 64 → length (numbered w x) ≤ length w + 20
unfolding numbered
numbered_short w x l = omega (arith, length-append w (decimal x), decimal_short 19 x (omega arith))
