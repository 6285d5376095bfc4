-- The last row of each formula, and of the whole table: it holds exactly where the condition over the tree does. Assumes nothing.
use Rattle.std.specs.Prelude.{◌≡◌, ◌↔◌, get_or}
use Rattle.std.proofs.Math.Path.{ap, subst}
use mathlib.Core.List.{List, ◌++◌}
use Prim.Native.Nat.{ℕ, ◌+◌, ◌-◌}
use native.Mathlib.Omega.{arith}
use Rattle.std.proofs.Math.ListN.{length}
use Rattle.logic.specs.declared.Profile.{Profile}
use Rattle.logic.specs.Formula.{Form}
use Rattle.logic.specs.Formula.Form.{same, diff, pts, ls, conj, disj, but, neg, sep, sept}
use Rattle.logic.specs.Paths.{NoLongPath}
use Rattle.rows.specs.Assignment.{Assignment, model_heap}
use Rattle.rows.specs.Row.{Row}
use Rattle.rows.specs.Row.Row.{EQ, NE, EMPTY, ONE, AT, LONG}
use Rattle.rows.specs.Meaning.{Means, RowHolds, Satisfies}
use Rattle.rows.specs.Table.{after, also, rows_in, rows_of, start, table}
use Rattle.rows.specs.TableLaws.{Here}
use Rattle.rows.proofs.TableLaws.{rows_some, rows_long, table_long, here_first, here_second}
use Rattle.rows.specs.Condition.{Condition}
use Rattle.rows.proofs.LastRow.{Says, also_row, pair_row, row_at, says_but, says_conj, says_disj, says_ls, says_neg}
use Rattle.rows.proofs.SplitRows.{says_sep, says_sept}

module _ (π : Profile) (v n : ℕ) (ν : Assignment) (rs : List Row) where
  -- the last row of each formula's rows, wherever they stand in the table
  says : (F : Form) → (Says π v n ν rs) F
  unfolding Says rows_of rows_in Condition Means
  says (same x y) A S s h = (pair_row π v n ν rs) s.row (EQ x y) (EMPTY S) h (λ q. q, λ q. q) (λ q. q, λ q. q)
  says (diff x y) A S s h = (pair_row π v n ν rs) s.row (NE x y) (EMPTY S) h (λ q. q, λ q. q) (λ q. q, λ q. q)
  says (pts x y) A S s h = (pair_row π v n ν rs) s.row (ONE S x) (AT A x y) h (λ q. q, λ q. q) (λ q. q, λ q. q)
  says (ls x y) A S s h = (says_ls π v n ν rs) x y A S s h
  says (conj a b) A S s h = (says_conj π v n ν rs) a b (says a) (says b) A S s h
  says (disj a b) A S s h = (says_disj π v n ν rs) a b (says a) (says b) A S s h
  says (but a b) A S s h = (says_but π v n ν rs) a b (says a) (says b) A S s h
  says (neg a) A S s h = (says_neg π v n ν rs) a (says a) A S s h
  says (sep a b) A S s h = (says_sep π v n ν rs) a b (says a) (says b) A S s h
  says (sept a b) A S s h = (says_sept π v n ν rs) a b (says a) (says b) A S s h

-- "It satisfies the table when the last row holds.": the formula's condition, and LONG
pub satisfies_condition : (π : Profile) (v n p : ℕ) (ν : Assignment) (F : Form) → Satisfies v ν (table π n p F) ↔ (Condition π v n ν F 0 0 1 1 × NoLongPath p (model_heap ν))
unfolding Says Means
satisfies_condition π v n p ν F =
    let rs = table π n p F in
    let r = rows_in π n F - 1 in
    let xs = rows_of π n F 0 0 start in
    let x = LONG 0 0 p in
    let last = also r x in
    let h : Here rs 0 (xs ++ last) = λ i l. ap (λ (k : ℕ). get_or rs k (EQ 0 0)) (omega arith) in
    let e : r + 2 ≡ length rs - 1 = omega (arith, table_long π n p F, rows_some π n F) in
    subst (λ (k : ℕ). RowHolds v ν rs k ↔ (Condition π v n ν F 0 0 1 1 × NoLongPath p (model_heap ν))) e
    (also_row π v n ν rs r x (here_second rs 0 xs last (r + 1) h (omega (arith, rows_long π n F 0 0 start, rows_some π n F)))
    (row_at π v n ν rs ((after π n F start).row - 1) r (omega arith) (says π v n ν rs F 0 0 start (here_first rs 0 xs last h))) (λ q. q, λ q. q))
