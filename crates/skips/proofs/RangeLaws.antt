-- Laws of ranges: they add up, and the range from 0 is the whole search. Assumes nothing.
use Rattle.std.specs.Prelude.{◌≡◌, Bool, ℕ, zero, suc, ◌<◌, ◌≤◌}
use Rattle.std.proofs.Common.{sym, not-suc-le-zero, lt-ltb}
use Rattle.std.proofs.Math.Path.{subst}
use mathlib.Core.List.{List, [], ◌∷◌}
use Rattle.std.proofs.Math.Decide.{dec_lt}
use native.Mathlib.Omega.{arith}
use Rattle.logic.specs.Tests.{pick}
use Rattle.logic.specs.Search.{Lowest}
use Rattle.skips.specs.Ranges.{Passed, Reply, nothing, numbered, FitInRange, Gives, lower_of, lowest_of, Pieces}

module _ (P : ℕ → Type 0) (t : ℕ) where
  pub passed_start : (from : ℕ) → Passed P t from from
  passed_start from c l m r = absurd (omega arith)

  passed_on : (from cut to : ℕ) → Passed P t from cut → Passed P t cut to → Passed P t from to
  passed_on from cut to q r c l m w = go (dec_lt c cut)
    where
      go : Dec (c < cut) → ⊥
      go (yes a) = q c l a w
      go (no a) = r c (omega arith) m w

  -- ---- the range from 0: what it gives back is the lowest of all

  -- where no number below m is the lowest fit, none fits
  pub none_below : (m : ℕ) → Passed P t 0 m → (c : ℕ) → c < m → c < t → ¬ P c
  none_below m q c l k = go (suc c) c (omega arith) l k
    where
      go : (e c : ℕ) → c < e → c < m → c < t → ¬ P c
      go zero c a l k f = absurd (not-suc-le-zero a)
      go (suc e) c a l k f =
          q c (omega arith) l (record { candidate = k; fits = f; lower = λ i b. go e i (omega arith) (omega arith) (omega arith) })

  pub from_0_lowest : (to k : ℕ) → FitInRange P t 0 to k → Lowest P t k
  from_0_lowest to k q =
      record { candidate = q.candidate; fits = q.fits; lower = λ i l. none_below k q.passed i l (omega (arith, q.candidate)) }

  -- ---- two ranges, and many

  module _ (from cut to : ℕ) (l : from ≤ cut) (m : cut ≤ to) where
    -- a candidate of the first one is below every candidate of the second
    first_fit : (k : ℕ) → FitInRange P t from cut k → FitInRange P t from to k
    first_fit k q = record { from_on = q.from_on; before = omega (arith, q.before); candidate = q.candidate; fits = q.fits; passed = q.passed }

    second_fit : (k : ℕ) → Passed P t from cut → FitInRange P t cut to k → FitInRange P t from to k
    second_fit k p q =
        record { from_on = omega (arith, q.from_on); before = q.before; candidate = q.candidate; fits = q.fits; passed = passed_on from cut k p q.passed }

    pub ranges_add_up : (x y : Reply) → Gives P t from cut x → Gives P t cut to y → Gives P t from to (lower_of x y)
    unfolding Gives lower_of
    ranges_add_up nothing nothing q r = passed_on from cut to q r
    ranges_add_up nothing (numbered k) q r = second_fit k q r
    ranges_add_up (numbered k) nothing q r = first_fit k q
    ranges_add_up (numbered k) (numbered j) q r =
        subst (λ (b : Bool). FitInRange P t from to (pick b k j)) (sym (lt-ltb k j (omega (arith, q.before, r.from_on)))) (first_fit k q)

  pieces_ordered : (xs : List Reply) (from to : ℕ) → Pieces P t from to xs → from ≤ to
  unfolding Pieces
  pieces_ordered [] from to q = omega arith
  pieces_ordered (x ∷ xs) from to q = let r = pieces_ordered xs q.0 to q.3 in omega (arith, q.1, r)

  -- "the lowest of the pieces' answers is the whole's"
  pub pieces_add_up : (xs : List Reply) (from to : ℕ) → Pieces P t from to xs → Gives P t from to (lowest_of xs)
  unfolding Pieces lowest_of Gives
  pieces_add_up [] from to q = subst (Passed P t from) q (passed_start from)
  pieces_add_up (x ∷ xs) from to q =
      let r = pieces_add_up xs q.0 to q.3 in
      ranges_add_up from q.0 to q.1 (pieces_ordered xs q.0 to q.3) x (lowest_of xs) q.2 r

  -- ---- pieces of the whole search

  pub pieces_lowest : (xs : List Reply) (to k : ℕ) → Pieces P t 0 to xs → lowest_of xs ≡ numbered k → Lowest P t k
  unfolding Gives
  pieces_lowest xs to k q e = from_0_lowest to k (subst (Gives P t 0 to) e (pieces_add_up xs 0 to q))

  -- "and none if no piece has one"
  pub pieces_none : (xs : List Reply) (to : ℕ) → Pieces P t 0 to xs → lowest_of xs ≡ nothing → (c : ℕ) → c < to → c < t → ¬ P c
  unfolding Gives
  pieces_none xs to q e = none_below to (subst (Gives P t 0 to) e (pieces_add_up xs 0 to q))
