-- How many candidates there are at the most. Assumes nothing.
use Rattle.std.specs.Prelude.{◌≡◌, refl, ℕ, ◌+◌, ◌≤◌}
use Rattle.std.proofs.Math.Nat.{pow-le-pow_left, pow-le-pow_right}
use Rattle.std.proofs.Common.{mul-le-mul, le_trans, arith}
use Rattle.logic.specs.Book.{most}
use Rattle.logic.specs.Candidates.{total}
use Rattle.logic.specs.TotalLaws.{most_total}

-- more variables and more locations have no fewer candidates
total_grows : (v v' n n' : ℕ) → v ≤ v' → n ≤ n' → total v n ≤ total v' n'
total_grows v v' n n' l k =
    mul-le-mul
    (le_trans (pow-le-pow_left {n = n + 1} {m = n' + 1} (omega arith) v) (pow-le-pow_right {n = n' + 1} (omega arith) l))
    (le_trans (pow-le-pow_left {n = n + 2} {m = n' + 2} (omega arith) n) (pow-le-pow_right {n = n' + 2} (omega arith) k))

-- as many there are at the highest bounds, and at no others more
pub total_is_most : total most most ≡ most_total
total_is_most = refl

pub total_most : (v n : ℕ) → v ≤ most → n ≤ most → total v n ≤ most_total
total_most v n l k = rw (← total_is_most) (total_grows v most n most l k)
