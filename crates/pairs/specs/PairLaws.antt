-- What a table is that passes the test: each part within its set, each pair above the one before, every pair there, and where
-- the stretch of each set begins. Assumes nothing.
use Rattle.std.specs.Prelude.{◌≡◌, refl, true, List, [], ◌∷◌, ℕ, zero, suc, ◌+◌, ◌-◌, ◌<◌, ◌≤◌, eqb, length, get_or, take, drop}
use Rattle.std.proofs.Common.{sym, ap, subst, ◌∙◌, lt_of_lt_of_le, le_trans, zero-add, arith, length-take, length-drop, get_or-drop, get_or-take, eqb-true}
use Rattle.std.proofs.Math.Nat.{pow-le-pow_right}
use Rattle.std.proofs.Math.Decide.{ℕ_discrete}
use Rattle.logic.proofs.Reflect.{false_true}
use Rattle.logic.specs.Book.{most}
use Rattle.cells.specs.Cells.{full, Sub}
use Rattle.pairs.specs.Pairs.{sets, pairs, size, set_of, part_of, pair, next, follow, in_order, Listed, Lists, part_at, Inside}
use Rattle.pairs.specs.Steps.{zero_low, set_of_pair, part_of_pair, after, sub_le, after_up, after_least, next_sub, next_up, next_stays, split, few_sets, follows, ends, last_low, sets_low, begun}

record Ordered (n : ℕ) (l : List ℕ) : Type 0 where
  first : get_or l 0 0 ≡ 0
  step : (k : ℕ) → suc k < length l → get_or l (suc k) 0 ≡ next (get_or l k 0)
  last : (k : ℕ) → suc k ≡ length l → get_or l k 0 ≡ pair (sets n - 1) (sets n - 1)
  low : (k : ℕ) → k < length l → set_of (get_or l k 0) < sets n

ordered : (n : ℕ) → n ≤ most → (l : List ℕ) → in_order n l ≡ true → Ordered n l
unfolding in_order
ordered n few [] t = false_true t
ordered n few (x ∷ xs) t =
    let q = split (eqb x 0) (follow n x xs) t in
    record {
      first = eqb-true x 0 q.0;
      step = λ k h. follows n x xs q.1 k (omega arith);
      last = λ k e. let z : length xs ≡ k = omega arith in subst (λ (j : ℕ). get_or (x ∷ xs) j 0 ≡ pair (sets n - 1) (sets n - 1)) z (ends n x xs q.1);
      low = λ k h. sets_low n few x xs q.1 k (omega arith);
    }

module _ (n : ℕ) (few : n ≤ most) (t : List ℕ) (q : Listed n t) where
  short : length t ≤ size most
  short =
      let few_pairs : pairs n ≤ pairs most = pow-le-pow_right {n = 3} (omega arith) few in
      rw q.long (omega (arith, few_sets n few))

  list : Ordered n (drop (sets n) t)
  list = ordered n few (drop (sets n) t) q.ordered

  list_long : length (drop (sets n) t) ≡ pairs n
  list_long = length-drop (sets n) t ∙ rw q.long (omega arith)

  -- the pair at number k of all
  abbrev pub at : ℕ → ℕ
  at k = get_or t (sets n + k) 0

  at_is : (k : ℕ) → at k ≡ get_or (drop (sets n) t) k 0
  at_is k = sym (get_or-drop (sets n) t k 0)

  first : at 0 ≡ 0
  first = at_is 0 ∙ list.first

  step : (k : ℕ) → suc k < pairs n → at (suc k) ≡ next (at k)
  step k h = at_is (suc k) ∙ list.step k (subst (λ (j : ℕ). suc k < j) (sym list_long) h) ∙ ap next (sym (at_is k))

  set_low : (k : ℕ) → k < pairs n → set_of (at k) < sets n
  set_low k h = rw (at_is k) (list.low k (subst (λ (j : ℕ). k < j) (sym list_long) h))

  set_byte_is : (k : ℕ) → k < pairs n → set_of (at k) < full
  set_byte_is k h = lt_of_lt_of_le (set_low k h) (few_sets n few)

  -- "part within set"
  pub part_in_set : (k : ℕ) → k < pairs n → Sub (part_of (at k)) (set_of (at k))
  part_in_set zero h = rw first refl
  part_in_set (suc k) h = rw (step k h) (next_sub (at k) (set_byte_is k (omega arith)))

  -- "each pair above the one before"
  pub pairs_rise : (k : ℕ) → suc k < pairs n → at k < at (suc k)
  pairs_rise k h = let l : k < pairs n = omega arith in rw (step k h) (next_up (at k) (set_byte_is k l) (part_in_set k l))

  -- the last is all of the last set
  last_whole : (k : ℕ) → suc k ≡ pairs n → part_of (at k) ≡ set_of (at k)
  last_whole k e =
      let low = last_low n few in
      rw (at_is k, list.last k (e ∙ sym list_long)) (part_of_pair (sets n - 1) low ∙ sym (set_of_pair (sets n - 1) low))

  -- "where each set's stretch begins": at its empty part
  pub stretch_begins : (a : ℕ) → a < sets n → Inside t (get_or t a 0) a × (part_at t (get_or t a 0) ≡ 0)
  stretch_begins a l =
      let b = get_or t a 0 in
      let e : get_or (take (sets n) t) a 0 ≡ b = get_or-take (sets n) t a 0 l in
      let all : a < length (take (sets n) t) = rw (length-take (sets n) t, q.long) (omega arith) in
      let s = begun (size n) 0 (sets n) (take (sets n) t) (drop (sets n) t) q.begun a all in
      let low : sets n ≤ b = subst (λ (x : ℕ). sets n ≤ x) e s.low in
      let high : b < size n = subst (λ (x : ℕ). x < size n) e s.high in
      let is : get_or (drop (sets n) t) (b - sets n) 0 ≡ pair (0 + a) 0 = subst (λ (x : ℕ). get_or (drop (sets n) t) (x - sets n) 0 ≡ pair (0 + a) 0) e s.is in
      let back : sets n + (b - sets n) ≡ b = omega arith in
      let begin : get_or t b 0 ≡ pair a 0 =
      ap (λ (i : ℕ). get_or t i 0) (sym back) ∙ sym (get_or-drop (sets n) t (b - sets n) 0) ∙ is ∙ ap (λ (x : ℕ). pair x 0) (zero-add a) in
      (record { locs = n; few = few; passed = q; low = low; high = rw q.long high; set = ap set_of begin ∙ set_of_pair a zero_low }, ap part_of begin ∙ part_of_pair a zero_low)

-- the pairs of a table for fewer locations are the first of one for more
pub first_pairs : (m : ℕ) (fewer : m ≤ most) (t : List ℕ) (p : Listed m t) (n : ℕ) (few : n ≤ most) (u : List ℕ) (q : Listed n u) (k : ℕ) → k < pairs m → k < pairs n → at m fewer t p k ≡ at n few u q k
first_pairs m fewer t p n few u q zero l h = first m fewer t p ∙ sym (first n few u q)
first_pairs m fewer t p n few u q (suc k) l h =
    step m fewer t p k l ∙ ap next (first_pairs m fewer t p n few u q k (omega arith) (omega arith)) ∙ sym (step n few u q k h)

-- ---- by place in the table
module _ (t : List ℕ) (i a : ℕ) (n : Inside t i a) where
  number : (k : ℕ) × (k < pairs n.locs) × (i ≡ sets n.locs + k)
  number = let l = n.low in let h = n.high in let z = n.passed.long in (i - sets n.locs, omega arith, omega arith)

  pub inside_short : i < size most
  inside_short = lt_of_lt_of_le n.high (short n.locs n.few t n.passed)

  pub inside_sub : Sub (part_at t i) a
  inside_sub =
      let k = number in
      subst (Sub (part_at t i)) n.set (rw k.2 (part_in_set n.locs n.few t n.passed k.0 k.1))

  pub inside_low : a < full
  inside_low = let k = number in subst (λ (s : ℕ). s < full) n.set (rw k.2 (set_byte_is n.locs n.few t n.passed k.0 k.1))

  -- from a place that is not the last of its set's stretch, the walk stays in the stretch
  pub inside_next : ¬ (part_at t i ≡ a) → Inside t (suc i) a × (part_at t (suc i) ≡ after a (part_at t i))
  inside_next ne = go number
    where
      go : (k : ℕ) × (k < pairs n.locs) × (i ≡ sets n.locs + k) → Inside t (suc i) a × (part_at t (suc i) ≡ after a (part_at t i))
      go (k, l, e) =
          let m : suc k < pairs n.locs = more (ℕ_discrete (suc k) (pairs n.locs)) in
          let z : suc i ≡ sets n.locs + suc k = omega arith in
          let long = n.passed.long in
          let s : get_or t (suc i) 0 ≡ next (get_or t i 0) = ap (λ (j : ℕ). get_or t j 0) z ∙ step n.locs n.few t n.passed k m ∙ ap (λ (j : ℕ). next (get_or t j 0)) (sym e) in
          let r = next_stays (get_or t i 0) (rw n.set inside_low) (λ z. ne (z ∙ n.set)) in
          (record { locs = n.locs; few = n.few; passed = n.passed; low = omega arith; high = omega arith; set = ap set_of s ∙ r.0 ∙ n.set }, ap part_of s ∙ r.1 ∙ ap (λ (x : ℕ). after x (part_at t i)) n.set)
        where
          more : Dec (suc k ≡ pairs n.locs) → suc k < pairs n.locs
          more (yes z) = absurd (ne (rw e (last_whole n.locs n.few t n.passed k z) ∙ n.set))
          more (no z) = omega arith

-- "every pair of set and part is there"
module _ (t : List ℕ) (a m : ℕ) (s : Sub m a) where
  abbrev There : Type 0
  There = (i : ℕ) × Inside t i a × (part_at t i ≡ m)

  from : (left i : ℕ) → Inside t i a → part_at t i ≤ m → m ≤ part_at t i + left → There
  from zero i n h f = (i, n, omega arith)
  from (suc left) i n h f =
      go (ℕ_discrete (part_at t i) m)
      (λ n' up le. from left (suc i) n' le up)
    where
      go : Dec (part_at t i ≡ m) → (Inside t (suc i) a → m ≤ part_at t (suc i) + left → part_at t (suc i) ≤ m → There) → There
      go (yes e) on = (i, n, e)
      go (no e) on =
          let low = inside_low t i a n in
          let part_le = sub_le m a s in
          let ne : ¬ (part_at t i ≡ a) = λ z. e (omega (arith, part_le)) in
          let r = inside_next t i a n ne in
          let up = after_up a (part_at t i) low (inside_sub t i a n) ne in
          let le = after_least a (part_at t i) low (inside_sub t i a n) m s (omega arith) in
          on r.0 (omega (arith, r.1)) (omega (arith, r.1))

  pub pair_there : (n : ℕ) → n ≤ most → Listed n t → a < sets n → There
  pair_there n few q l = let b = stretch_begins n few t q a l in from m (get_or t a 0) b.0 (omega (arith, b.1)) (omega arith)

-- ---- a table for l locations or more
module _ (l : ℕ) (t : List ℕ) (q : Lists l t) where
  set_there : (a : ℕ) → a < sets l → a < sets q.locs
  set_there a h = lt_of_lt_of_le h (pow-le-pow_right {n = 2} (omega arith) q.enough)

  pub place_there : (a : ℕ) → a < sets l → a < length t
  place_there a h = rw q.passed.long (omega (arith, set_there a h))

  pub begins_there : (a : ℕ) → a < sets l → Inside t (get_or t a 0) a × (part_at t (get_or t a 0) ≡ 0)
  begins_there a h = stretch_begins q.locs q.few t q.passed a (set_there a h)

  pub lists_fewer : (k : ℕ) → k ≤ l → Lists k t
  lists_fewer k h = record { locs = q.locs; enough = le_trans h q.enough; few = q.few; passed = q.passed }
