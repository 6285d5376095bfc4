-- The last rows of operators 9 and 10: SPLIT, APART and SAME behind the rows of both trees. Assumes nothing.
use Rattle.std.specs.Prelude.{◌≡◌, ◌↔◌}
use Rattle.std.proofs.Math.Path.{refl, subst}
use Rattle.std.proofs.Common.{sym}
use mathlib.Core.List.{List, [], ◌∷◌, ◌++◌}
use Prim.Native.Nat.{ℕ, ◌+◌, ◌-◌}
use native.Mathlib.Omega.{arith}
use Rattle.std.proofs.Math.ListN.{length, length-append}
use Rattle.logic.specs.declared.Profile.{Profile}
use Rattle.logic.specs.Formula.{Form}
use Rattle.logic.specs.Formula.Form.{sep, sept}
use Rattle.rows.specs.declared.Next.{Next}
use Rattle.rows.specs.Assignment.{Assignment}
use Rattle.rows.specs.Row.{Row}
use Rattle.rows.specs.Row.Row.{AND, SPLIT, APART, SAME}
use Rattle.rows.specs.Meaning.{Means, RowHolds, Splits, Apart}
use Rattle.rows.specs.Table.{arrays_in, sets_in, two_sets, array_and_sets, after, also, also_apart, apart_row_count, sep_rows, rows_in, rows_of}
use Rattle.rows.specs.TableLaws.{Here}
use Rattle.rows.proofs.TableLaws.{apart_long, rows_some, trees_long, here_first, here_second, here_at}
use Rattle.rows.specs.Condition.{Condition}
use Rattle.rows.proofs.LastRow.{both, Both, Says, also_row, and_row, apart_row, first_below, row_at}

module _ (π : Profile) (v n : ℕ) (ν : Assignment) (rs : List Row) where
  -- the children, SPLIT, and APART where the profile asks it: row m is the AND of the children
  split_rows : (a b : Form) (A S T : ℕ) (s : Next) (x y z B w u m : ℕ) → (Both π v n ν rs) a b A S T s → m ≡ (after π n b (after π n a s)).row
      → Here rs m ((AND ((after π n a s).row - 1) (m - 1) ∷ also m (SPLIT x y z)) ++ also_apart π (m + 2) (APART B w u))
      → RowHolds v ν rs (m + 2 + apart_row_count π) ↔ (((Condition π v n ν a A S s.array s.set × Condition π v n ν b A T (s.array + arrays_in a) (s.set + sets_in a)) × Splits (ν.set x) (ν.set y) (ν.set z)) × Apart π v ν.stack (ν.array B) (ν.set w) (ν.set u))
  unfolding Means
  split_rows a b A S T s x y z B w u m q e h =
      let t = after π n a s in
      let own = AND (t.row - 1) (m - 1) ∷ also m (SPLIT x y z) in
      let ho = here_first rs m own (also_apart π (m + 2) (APART B w u)) h in
      let trees = (and_row π v n ν rs) m (t.row - 1) (m - 1) (here_at rs m own ho 0 m (omega arith) (omega arith))
      ((first_below π v n ν rs) a b A S T s m (omega arith)) (omega (arith, rows_some π n b)) q.first (subst (λ (k : ℕ). RowHolds v ν rs (k - 1) ↔ Condition π v n ν b A T (s.array + arrays_in a) (s.set + sets_in a)) (sym e) q.second) in
      let hs = here_second rs m (AND (t.row - 1) (m - 1) ∷ []) (also m (SPLIT x y z)) (m + 1) ho refl in
      let ha = here_second rs m own (also_apart π (m + 2) (APART B w u)) (m + 2 + 1) h (omega arith) in
      (apart_row π v n ν rs) π (m + 2) B w u ha ((also_row π v n ν rs) m (SPLIT x y z) hs trees (λ q. q, λ q. q))

  pub says_sep : (a b : Form) → (Says π v n ν rs) a → (Says π v n ν rs) b → (Says π v n ν rs) (sep a b)
  unfolding Says rows_of rows_in Condition
  says_sep a b sa sb A S s h =
      let s₁ = two_sets s in
      let t = after π n a s₁ in
      let m = (after π n b t).row in
      let xs = rows_of π n a A s.set s₁ ++ rows_of π n b A (s.set + 1) t in
      let own = sep_rows π A S s.set (s.set + 1) t.row m in
      let q = (both π v n ν rs) a b sa sb A s.set (s.set + 1) s₁ (here_first rs s.row xs own h) in
      let ho = here_second rs s.row xs own m h (omega (arith, trees_long π n a b A s.set (s.set + 1) s₁)) in
      let e : m + 2 + apart_row_count π ≡ s.row + (rows_in π n a + rows_in π n b + (3 + apart_row_count π)) - 1 = omega arith in
      (row_at π v n ν rs) (m + 2 + apart_row_count π) _ e (split_rows a b A s.set (s.set + 1) s₁ S s.set (s.set + 1) A s.set (s.set + 1) m q refl ho)

  pub says_sept : (a b : Form) → (Says π v n ν rs) a → (Says π v n ν rs) b → (Says π v n ν rs) (sept a b)
  unfolding Says rows_of rows_in Condition Means
  says_sept a b sa sb A S s h =
      let s₁ = array_and_sets s in
      let B = s.array in
      let t = after π n a s₁ in
      let m = (after π n b t).row in
      let xs = rows_of π n a B s.set s₁ ++ rows_of π n b B (s.set + 1) t in
      let x = SPLIT (s.set + 1) s.set S in
      let y = APART B s.set S in
      let front = (AND (t.row - 1) (m - 1) ∷ also m x) ++ also_apart π (m + 2) y in
      let last = also (m + 2 + apart_row_count π) (SAME A B S) in
      let q = (both π v n ν rs) a b sa sb B s.set (s.set + 1) s₁ (here_first rs s.row xs (front ++ last) h) in
      let ho = here_second rs s.row xs (front ++ last) m h (omega (arith, trees_long π n a b B s.set (s.set + 1) s₁)) in
      let long : length front ≡ 3 + apart_row_count π = omega (arith, length-append (AND (t.row - 1) (m - 1) ∷ also m x) (also_apart π (m + 2) y), apart_long π (m + 2) y) in
      let e : m + 2 + apart_row_count π + 2 ≡ s.row + (rows_in π n a + rows_in π n b + (5 + apart_row_count π)) - 1 = omega arith in
      (row_at π v n ν rs) (m + 2 + apart_row_count π + 2) _ e
      ((also_row π v n ν rs) (m + 2 + apart_row_count π) (SAME A B S) (here_second rs m front last (m + 2 + apart_row_count π + 1) ho (omega arith))
      (split_rows a b B s.set (s.set + 1) s₁ (s.set + 1) s.set S B s.set S m q refl (here_first rs m front last ho)) (λ q. q, λ q. q))
