-- That a list is a table of sets and parts holds in one way at most, so it may stand beside the table in a struct. Assumes nothing.
use Rattle.std.specs.Prelude.{◌≡◌, List, ℕ, suc, ◌^◌, ◌<◌, ◌≤◌}
use Rattle.std.proofs.Common.{sym, ◌∙◌, arith}
use Rattle.std.proofs.Math.Bridge.{le_prop}
use Rattle.std.proofs.Math.Bool.{Bool-set}
use Rattle.std.proofs.Math.Nat.{ℕ_set, pow-le-pow_right, one-le-pow}
use Rattle.std.proofs.Math.Decide.{dec_lt}
use mathlib.Core.HLevel.{is_prop→PathP}
use Rattle.pairs.specs.Pairs.{size, Listed, Lists}

listed_prop : (n : ℕ) (t : List ℕ) → IsProp (Listed n t)
listed_prop n t p q =
    λ i. record {
      long = ℕ_set _ _ p.long q.long i;
      ordered = Bool-set _ _ p.ordered q.ordered i;
      begun = Bool-set _ _ p.begun q.begun i;
    }

-- a table for more locations is longer
longer : (n m : ℕ) → n < m → size n < size m
longer n m l =
    let two : 2 ^ suc n ≤ 2 ^ m = pow-le-pow_right {n = 2} (omega arith) l in
    let three : 3 ^ n ≤ 3 ^ m = pow-le-pow_right {n = 3} (omega arith) (omega arith) in
    omega (arith, two, three, one-le-pow n 2 (omega arith))

size_one : (n m : ℕ) → size n ≡ size m → n ≡ m
size_one n m e = go (dec_lt n m) (dec_lt m n)
  where
    go : Dec (n < m) → Dec (m < n) → n ≡ m
    go (yes l) d = absurd (omega (arith, longer n m l, e))
    go (no l) (yes g) = absurd (omega (arith, longer m n g, e))
    go (no l) (no g) = omega arith

pub lists_prop : (l : ℕ) (t : List ℕ) → IsProp (Lists l t)
lists_prop l t p q =
    let e : p.locs ≡ q.locs = size_one p.locs q.locs (sym p.passed.long ∙ q.passed.long) in
    λ i. record {
      locs = e i;
      enough = is_prop→PathP (λ j. l ≤ e j) (λ j. le_prop) p.enough q.enough i;
      few = is_prop→PathP (λ j. e j ≤ 8) (λ j. le_prop) p.few q.few i;
      passed = is_prop→PathP (λ j. Listed (e j) t) (λ j. listed_prop (e j) t) p.passed q.passed i;
    }
