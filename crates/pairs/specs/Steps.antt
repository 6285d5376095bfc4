-- From one pair to the next, and along a list in which each pair follows the one before. Assumes nothing.
use Rattle.std.specs.Prelude.{◌≡◌, Bool, true, eqb, leb, ltb, length, get_or, drop}
use Rattle.std.proofs.Common.{sym, ap, subst, ◌∙◌, div-add-mod', mod-lt, le_of_suc-le-suc, not-suc-le-zero, le_trans, add_comm, arith, get_or-drop}
use mathlib.Core.List.{List, [], ◌∷◌}
use Prim.Native.Nat.{ℕ, zero, suc, zero-le, ◌+◌, ◌-◌, ◌*◌, ◌/◌, ◌^◌, ◌<◌, ◌≤◌}
use Rattle.std.proofs.Math.Nat.{lt_of_le_of_lt, add-mul-div_right, pow-le-pow_right}
use Rattle.std.proofs.Math.Decide.{ℕ_discrete}
use Rattle.std.proofs.Math.Arith.{digits_div, digits_mod}
use Rattle.std.specs.Int.Bits.{bit_and, and_zero_l}
use Rattle.std.proofs.lemmas.Nat.{and_le_r}
use borrow.Author.Tests.{eqb-true, eq-eqb, ne_eqb, leb-true, ltb-true}
use Rattle.logic.specs.Tests.{andb}
use Rattle.logic.specs.Book.{most as most_listed}
use Rattle.logic.proofs.Reflect.{is_and, is_self}
use Rattle.cells.specs.Cells.{most, full, Sub}
use Rattle.cells.specs.Subsets.{next_above, next_least, and_sub}
use Rattle.pairs.specs.Pairs.{sets, set_of, part_of, pair, next, follow, begins}

pub set_of_pair : (a : ℕ) {m : ℕ} → m < full → set_of (pair a m) ≡ a
set_of_pair a l = digits_div a l

pub part_of_pair : (a : ℕ) {m : ℕ} → m < full → part_of (pair a m) ≡ m
part_of_pair a l = digits_mod a l

pub pair_of : (x : ℕ) → pair (set_of x) (part_of x) ≡ x
pair_of x = div-add-mod' x full

pub part_low : (x : ℕ) → part_of x < full
part_low x = mod-lt x {m = full} (omega arith)

pub zero_low : 0 < full
zero_low = omega arith

-- the part after m in the set a
abbrev pub after : ℕ → ℕ → ℕ
after a m = bit_and (m + (full - a)) a

pub next_whole : (x : ℕ) → part_of x ≡ set_of x → next x ≡ pair (suc (set_of x)) 0
unfolding next
next_whole x e = rw (eq-eqb (part_of x) (set_of x) e)

pub next_part : (x : ℕ) → ¬ (part_of x ≡ set_of x) → next x ≡ pair (set_of x) (after (set_of x) (part_of x))
unfolding next
next_part x e = rw (ne_eqb (part_of x) (set_of x) e)

-- the next pair's set is not below this one's
pub next_set : (x : ℕ) → set_of x ≤ set_of (next x)
next_set x = go (ℕ_discrete (part_of x) (set_of x))
  where
    set_low : (a m : ℕ) → a ≤ set_of (pair a m)
    set_low a m =
        let e : (m + a * full) / full ≡ m / full + a = add-mul-div_right m a (omega arith) in
        rw (add_comm (a * full) m, e) (omega arith)

    go : Dec (part_of x ≡ set_of x) → set_of x ≤ set_of (next x)
    go (yes e) = rw (next_whole x e) (le_trans (omega arith) (set_low (suc (set_of x)) 0))
    go (no e) = rw (next_part x e) (set_low (set_of x) (after (set_of x) (part_of x)))

pub sub_le : (m a : ℕ) → Sub m a → m ≤ a
sub_le m a s = subst (λ (x : ℕ). x ≤ a) s (and_le_r m a)

module _ (a m : ℕ) (low : a < full) (s : Sub m a) where
  whole : full - 1 - a + a + 1 ≡ 2 ^ most
  whole = omega arith

  step : m + (full - a) ≡ m + (full - 1 - a) + 1
  step = omega arith

  -- the part after m is above it
  pub after_up : ¬ (m ≡ a) → m < after a m
  after_up e = rw step (next_above most m a (full - 1 - a) whole s (omega (arith, sub_le m a s)))

  -- and no part lies between
  pub after_least : (i : ℕ) → Sub i a → m < i → after a m ≤ i
  after_least i d l = rw step (next_least most m a (full - 1 - a) i whole s d l)

module _ (x : ℕ) (low : set_of x < full) where
  after_low : after (set_of x) (part_of x) < full
  after_low = lt_of_le_of_lt (and_le_r (part_of x + (full - set_of x)) (set_of x)) low

  -- the next pair's part is one of its set
  pub next_sub : Sub (part_of (next x)) (set_of (next x))
  next_sub = go (ℕ_discrete (part_of x) (set_of x))
    where
      go : Dec (part_of x ≡ set_of x) → Sub (part_of (next x)) (set_of (next x))
      go (yes e) = rw (next_whole x e, part_of_pair (suc (set_of x)) zero_low) (and_zero_l (set_of (pair (suc (set_of x)) 0)))
      go (no e) = rw (next_part x e, part_of_pair (set_of x) after_low, set_of_pair (set_of x) after_low) (and_sub most (part_of x + (full - set_of x)) (set_of x) low)

  -- it is above this one
  pub next_up : Sub (part_of x) (set_of x) → x < next x
  next_up s = go (ℕ_discrete (part_of x) (set_of x))
    where
      go : Dec (part_of x ≡ set_of x) → x < next x
      go (yes e) = rw (next_whole x e) (omega (arith, pair_of x, part_low x))
      go (no e) = rw (next_part x e) (omega (arith, pair_of x, after_up (set_of x) (part_of x) low s e))

  -- it is in the same set where this one is not all of it
  pub next_stays : ¬ (part_of x ≡ set_of x) → (set_of (next x) ≡ set_of x) × (part_of (next x) ≡ after (set_of x) (part_of x))
  next_stays e = rw (next_part x e) (set_of_pair (set_of x) after_low, part_of_pair (set_of x) after_low)

-- ---- lists in which each pair follows the one before
pub split : (a b : Bool) → andb a b ≡ true → (a ≡ true) × (b ≡ true)
split a b e = (is_and a b (is_self a) (is_self b)).to e

-- a table for n locations has a set, and no more than there are
pub some_sets : (n : ℕ) → 0 < sets n
some_sets n = pow-le-pow_right {n = 2} (omega arith) zero-le

pub few_sets : (n : ℕ) → n ≤ most_listed → sets n ≤ full
few_sets n few = pow-le-pow_right {n = 2} (omega arith) few

module _ (n : ℕ) where
  pub follows : (x : ℕ) (xs : List ℕ) → follow n x xs ≡ true → (k : ℕ) → k < length xs → get_or xs k 0 ≡ next (get_or (x ∷ xs) k 0)
  unfolding follow
  follows x [] t k h = absurd (not-suc-le-zero h)
  follows x (y ∷ ys) t zero h = eqb-true y (next x) (split (eqb y (next x)) (follow n y ys) t).0
  follows x (y ∷ ys) t (suc k) h = follows y ys (split (eqb y (next x)) (follow n y ys) t).1 k (le_of_suc-le-suc h)

  pub ends : (x : ℕ) (xs : List ℕ) → follow n x xs ≡ true → get_or (x ∷ xs) (length xs) 0 ≡ pair (sets n - 1) (sets n - 1)
  unfolding follow
  ends x [] t = eqb-true x _ t
  ends x (y ∷ ys) t = ends y ys (split (eqb y (next x)) (follow n y ys) t).1

  -- the number of the last set, which is its greatest part too
  pub last_low : n ≤ most_listed → sets n - 1 < full
  last_low few = omega (arith, few_sets n few, some_sets n)

  pub sets_low : n ≤ most_listed → (x : ℕ) (xs : List ℕ) → follow n x xs ≡ true → (k : ℕ) → k ≤ length xs → set_of (get_or (x ∷ xs) k 0) < sets n
  unfolding follow
  sets_low few x [] t zero h = rw (eqb-true x _ t, set_of_pair (sets n - 1) (last_low few)) (omega (arith, some_sets n))
  sets_low few x [] t (suc k) h = absurd (not-suc-le-zero h)
  sets_low few x (y ∷ ys) t zero h =
      let q = split (eqb y (next x)) (follow n y ys) t in
      lt_of_le_of_lt (next_set x) (subst (λ (z : ℕ). set_of z < sets n) (eqb-true y (next x) q.0) (sets_low few y ys q.1 0 zero-le))
  sets_low few x (y ∷ ys) t (suc k) h = sets_low few y ys (split (eqb y (next x)) (follow n y ys) t).1 k (le_of_suc-le-suc h)

-- ---- where the stretches begin
pub record Begun (z a k : ℕ) (bs xs : List ℕ) (i : ℕ) : Type 0 where
  pub low : k ≤ get_or bs i 0
  pub high : get_or bs i 0 < z
  pub is : get_or xs (get_or bs i 0 - k) 0 ≡ pair (a + i) 0

module _ (z a k b : ℕ) (bs xs : List ℕ) where
  abbrev rest : Bool
  rest = begins z (suc a) b bs (drop (b - k) xs)

  abbrev first : Bool
  first = eqb (get_or (drop (b - k) xs) 0 0) (pair a 0)

  parts : begins z a k (b ∷ bs) xs ≡ true → (k ≤ b) × (b < z) × (get_or (drop (b - k) xs) 0 0 ≡ pair a 0) × (rest ≡ true)
  unfolding begins
  parts t =
      let q = split (leb k b) (andb (ltb b z) (andb first rest)) t in
      let r = split (ltb b z) (andb first rest) q.1 in
      let s = split first rest r.1 in
      (leb-true k b q.0, ltb-true b z r.0, eqb-true _ _ s.0, s.1)

pub begun : (z a k : ℕ) (bs xs : List ℕ) → begins z a k bs xs ≡ true → (i : ℕ) → i < length bs → Begun z a k bs xs i
begun z a k [] xs t i h = absurd (not-suc-le-zero h)
begun z a k (b ∷ bs) xs t zero h =
    let q = parts z a k b bs xs t in
    record {
      low = q.0;
      high = q.1;
      is = ap (λ (j : ℕ). get_or xs j 0) (omega arith) ∙ sym (get_or-drop (b - k) xs 0 0) ∙ q.2 ∙ ap (λ (j : ℕ). pair j 0) (omega arith);
    }
begun z a k (b ∷ bs) xs t (suc i) h =
    let q = parts z a k b bs xs t in
    let n = begun z (suc a) b bs (drop (b - k) xs) q.3 i (le_of_suc-le-suc h) in
    let e : get_or bs i 0 - k ≡ b - k + (get_or bs i 0 - b) = omega (arith, n.low, q.0) in
    record {
      low = le_trans q.0 n.low;
      high = n.high;
      is = ap (λ (j : ℕ). get_or xs j 0) e ∙ sym (get_or-drop (b - k) xs (get_or bs i 0 - b) 0) ∙ n.is ∙ ap (λ (j : ℕ). pair j 0) (omega arith);
    }
