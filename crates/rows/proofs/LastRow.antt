-- The last row of a formula's rows holds exactly where the condition over the tree does. Assumes nothing.
use Rattle.std.specs.Prelude.{◌≡◌, ◌⊎◌, ◌↔◌, get_or}
use Rattle.std.proofs.Math.Path.{refl, ap, ap₂, subst}
use Rattle.std.proofs.Common.{sym, ◌∙◌, not-suc-le-zero, eq-or-lt_of_le, eq-eqb, ne_eqb}
use mathlib.Core.List.{List, [], ◌∷◌, ◌++◌}
use Rattle.std.proofs.Math.Logic.{inl, inr, ⊎_elim}
use Prim.Native.Nat.{ℕ, zero, suc, zero-le, ◌+◌, ◌-◌, ◌<◌, ◌≤◌}
use Rattle.std.proofs.Math.Nat.{le_of_suc-le-suc}
use native.Mathlib.Omega.{arith}
use Rattle.std.proofs.Math.ListN.{length}
use Rattle.logic.specs.declared.Profile.{Profile}
use Rattle.logic.specs.declared.Profile.TheVariants.{Strong, Ordinary}
use Rattle.logic.specs.Formula.{Form}
use Rattle.logic.specs.Formula.Form.{ls, conj, disj, but, neg}
use Rattle.rows.specs.declared.Next.{Next}
use Rattle.rows.specs.Assignment.{Assignment}
use Rattle.rows.specs.Row.{Row}
use Rattle.rows.specs.Row.Row.{EQ, CHAIN, AND, OR, NOT, APART}
use Rattle.rows.specs.Meaning.{Means, HoldsBefore, RowHolds, Links, Apart}
use Rattle.rows.specs.Table.{arrays_in, sets_in, after, chains, ors, so_far, pair_rows, also, also_apart, apart_row_count, rows_in, rows_of}
use Rattle.rows.specs.TableLaws.{Here}
use Rattle.rows.proofs.TableLaws.{chains_long, chains_at, ors_long, ors_at, rows_some, rows_long, trees_long, here_first, here_second, here_at}
use Rattle.rows.specs.Condition.{Condition}

iff_and : {P Q R T : Type 0} → P ↔ Q → R ↔ T → (P × R) ↔ (Q × T)
iff_and f g = (λ q. (f.0 q.0, g.0 q.1), λ q. (f.1 q.0, g.1 q.1))

iff_or : {P Q R T : Type 0} → P ↔ Q → R ↔ T → (P ⊎ R) ↔ (Q ⊎ T)
iff_or f g = (⊎_elim (λ q. inl (f.0 q)) (λ q. inr (g.0 q)), ⊎_elim (λ q. inl (f.1 q)) (λ q. inr (g.1 q)))

iff_not : {P Q : Type 0} → P ↔ Q → (¬ P) ↔ (¬ Q)
iff_not f = (λ q p. q (f.1 p), λ q p. q (f.0 p))

iff_trans : {P Q R : Type 0} → P ↔ Q → Q ↔ R → P ↔ R
iff_trans f g = (λ p. g.0 (f.0 p), λ r. f.1 (g.1 r))

iff_of : {P Q : Type 0} → P ≡ Q → P ↔ Q
iff_of e = (λ p. subst (λ (X : Type 0). X) e p, λ q. subst (λ (X : Type 0). X) (sym e) q)

module _ (π : Profile) (v n : ℕ) (ν : Assignment) (rs : List Row) where
  -- a row keeps what it says, whatever comes after it
  row_kept : (d k : ℕ) → k < d → HoldsBefore v ν rs d k ≡ RowHolds v ν rs k
  row_kept zero k l = absurd (not-suc-le-zero l)
  row_kept (suc d) k l =
      ⊎_elim (λ (e : k ≡ d). ap (λ (m : ℕ). HoldsBefore v ν rs (suc m) k) (sym e))
      (λ (m : k < d). one_more (λ e. omega arith) ∙ row_kept d k m) (eq-or-lt_of_le (le_of_suc-le-suc l))
    where
      one_more : ¬ (k ≡ d) → HoldsBefore v ν rs (suc d) k ≡ HoldsBefore v ν rs d k
      one_more e = unfold HoldsBefore in rw (ne_eqb k d e)

  row_is : (k : ℕ) (x : Row) → get_or rs k (EQ 0 0) ≡ x → RowHolds v ν rs k ≡ Means v ν (HoldsBefore v ν rs k) x
  unfolding HoldsBefore
  row_is k x e = rw (eq-eqb k k refl) (ap (Means v ν (HoldsBefore v ν rs k)) e)

  pub and_row : (k i j : ℕ) {P Q : Type 0} → get_or rs k (EQ 0 0) ≡ AND i j → i < k → j < k → RowHolds v ν rs i ↔ P → RowHolds v ν rs j ↔ Q → RowHolds v ν rs k ↔ (P × Q)
  unfolding Means
  and_row k i j e l m f g =
      iff_trans (iff_of (row_is k (AND i j) e ∙ ap₂ (λ (X Y : Type 0). X × Y) (row_kept k i l) (row_kept k j m))) (iff_and f g)

  or_row : (k i j : ℕ) {P Q : Type 0} → get_or rs k (EQ 0 0) ≡ OR i j → i < k → j < k → RowHolds v ν rs i ↔ P → RowHolds v ν rs j ↔ Q → RowHolds v ν rs k ↔ (P ⊎ Q)
  unfolding Means
  or_row k i j e l m f g =
      iff_trans (iff_of (row_is k (OR i j) e ∙ ap₂ (λ (X Y : Type 0). X ⊎ Y) (row_kept k i l) (row_kept k j m))) (iff_or f g)

  not_row : (k i : ℕ) {P : Type 0} → get_or rs k (EQ 0 0) ≡ NOT i → i < k → RowHolds v ν rs i ↔ P → RowHolds v ν rs k ↔ (¬ P)
  unfolding Means
  not_row k i e l f = iff_trans (iff_of (row_is k (NOT i) e ∙ ap (λ (X : Type 0). ¬ X) (row_kept k i l))) (iff_not f)

  -- two rows and their AND
  pub pair_row : (r : ℕ) (x y : Row) {P Q : Type 0} → Here rs r (pair_rows r x y) → Means v ν (HoldsBefore v ν rs r) x ↔ P → Means v ν (HoldsBefore v ν rs (r + 1)) y ↔ Q → RowHolds v ν rs (r + 3 - 1) ↔ (P × Q)
  pair_row r x y h f g =
      and_row (r + 3 - 1) r (r + 1) (here_at rs r (pair_rows r x y) h 2 (r + 3 - 1) (omega arith) (omega arith)) (omega arith) (omega arith)
      (iff_trans (iff_of (row_is r x (here_at rs r (pair_rows r x y) h 0 r (omega arith) (omega arith)))) f)
      (iff_trans (iff_of (row_is (r + 1) y (here_at rs r (pair_rows r x y) h 1 (r + 1) (omega arith) (omega arith)))) g)

  -- what is to be shown of a formula
  unfoldable pub Says : Form → Type 0
  Says F = (A S : ℕ) (s : Next) → Here rs s.row (rows_of π n F A S s) → RowHolds v ν rs ((after π n F s).row - 1) ↔ Condition π v n ν F A S s.array s.set

  -- the result after m ORs
  module _ (A S x y r : ℕ) (hc : Here rs r (chains A S x y (n + 1))) (ho : Here rs (r + (n + 1)) (ors r (r + (n + 1)) n)) where
    Upto : ℕ → Type 0
    Upto m = (k : ℕ) × (k ≤ m) × Links (ν.array A) (ν.set S) (ν.stack x) (ν.stack y) k

    chain_row : (m : ℕ) → m ≤ n → RowHolds v ν rs (r + m) ↔ Links (ν.array A) (ν.set S) (ν.stack x) (ν.stack y) m
    unfolding Means
    chain_row m l =
        let i : m < length (chains A S x y (n + 1)) = omega (arith, chains_long A S x y (n + 1)) in
        iff_of (row_is (r + m) (CHAIN A S x y m) (hc m i ∙ chains_at A S x y (n + 1) m (omega arith)))

    one_more : (m : ℕ) → (Upto m ⊎ Links (ν.array A) (ν.set S) (ν.stack x) (ν.stack y) (m + 1)) ↔ Upto (suc m)
    unfolding Upto
    one_more m = (
      ⊎_elim (λ q. (q.0, omega (arith, q.1), q.2)) (λ q. (m + 1, omega arith, q)),
      λ q. ⊎_elim (λ (e : q.0 ≡ suc m). inr (subst (Links (ν.array A) (ν.set S) (ν.stack x) (ν.stack y)) (e ∙ omega arith) q.2))
          (λ (l : q.0 < suc m). inl (q.0, le_of_suc-le-suc l, q.2)) (eq-or-lt_of_le q.1),
    )

    or_rows : (m : ℕ) → m ≤ n → RowHolds v ν rs (so_far r (r + (n + 1)) m) ↔ Upto m
    unfolding so_far Upto
    or_rows zero l =
        let e : r + 0 ≡ r = omega arith in
        iff_trans (subst (λ (k : ℕ). RowHolds v ν rs k ↔ Links (ν.array A) (ν.set S) (ν.stack x) (ν.stack y) 0) e (chain_row 0 l))
        (λ q. (0, zero-le, q), λ q. subst (Links (ν.array A) (ν.set S) (ν.stack x) (ν.stack y)) (omega (arith, q.1)) q.2)
    or_rows (suc m) l =
        let e : r + (m + 1) ≡ r + m + 1 = omega arith in
        let k = r + (n + 1) + m in
        iff_trans (or_row k (so_far r (r + (n + 1)) m) (r + m + 1)
        (here_at rs (r + (n + 1)) (ors r (r + (n + 1)) n) ho m k (omega (arith, ors_long r (r + (n + 1)) n)) refl ∙ ors_at r (r + (n + 1)) n m l)
        (before m) (omega arith) (or_rows m (omega arith))
        (subst (λ (i : ℕ). RowHolds v ν rs i ↔ Links (ν.array A) (ν.set S) (ν.stack x) (ν.stack y) (m + 1)) e (chain_row (m + 1) (omega arith))))
        (one_more m)
      where
        before : (m : ℕ) → so_far r (r + (n + 1)) m < r + (n + 1) + m
        before zero = omega arith
        before (suc m) = omega arith

  pub says_ls : (x y : ℕ) → Says (ls x y)
  unfolding Says rows_of rows_in Condition Upto
  says_ls x y A S s h =
      let xs = chains A S x y (n + 1) in
      let ys = ors s.row (s.row + (n + 1)) n in
      let hc = here_first rs s.row xs ys h in
      let ho = here_second rs s.row xs ys (s.row + (n + 1)) h (omega (arith, chains_long A S x y (n + 1))) in
      subst (λ (k : ℕ). RowHolds v ν rs k ↔ Upto A S x y s.row hc ho n) (end n) (or_rows A S x y s.row hc ho n (omega arith))
    where
      end : (m : ℕ) → so_far s.row (s.row + (m + 1)) m ≡ s.row + (m + 1 + m) - 1
      end zero = unfold so_far in omega arith
      end (suc m) = unfold so_far in omega arith

  -- two trees over array A
  pub record Both (a b : Form) (A S T : ℕ) (s : Next) : Type 0 where
    pub first : RowHolds v ν rs ((after π n a s).row - 1) ↔ Condition π v n ν a A S s.array s.set
    pub second : RowHolds v ν rs ((after π n b (after π n a s)).row - 1) ↔ Condition π v n ν b A T (s.array + arrays_in a) (s.set + sets_in a)

  pub both : (a b : Form) → Says a → Says b → (A S T : ℕ) (s : Next) → Here rs s.row (rows_of π n a A S s ++ rows_of π n b A T (after π n a s)) → Both a b A S T s
  unfolding Says
  both a b sa sb A S T s h =
      let xs = rows_of π n a A S s in
      let ys = rows_of π n b A T (after π n a s) in
      record {
        first = sa A S s (here_first rs s.row xs ys h);
        second = sb A T (after π n a s) (here_second rs s.row xs ys (s.row + rows_in π n a) h (omega (arith, rows_long π n a A S s)));
      }

  -- where the last rows of the two trees stand, below a row behind them
  module _ (a b : Form) (A S T : ℕ) (s : Next) (k : ℕ) (l : (after π n b (after π n a s)).row ≤ k) where
    pub first_below : (after π n a s).row - 1 < k
    first_below = omega (arith, rows_some π n a)

    second_below : (after π n b (after π n a s)).row - 1 < k
    second_below = omega (arith, rows_some π n b)

  pub says_conj : (a b : Form) → Says a → Says b → Says (conj a b)
  unfolding Says rows_of rows_in Condition
  says_conj a b sa sb A S s h =
      let t = after π n a s in
      let u = after π n b t in
      let xs = rows_of π n a A S s ++ rows_of π n b A S t in
      let own = AND (t.row - 1) (u.row - 1) ∷ [] in
      let k = s.row + (rows_in π n a + rows_in π n b + 1) - 1 in
      let q = both a b sa sb A S S s (here_first rs s.row xs own h) in
      let ho = here_second rs s.row xs own u.row h (omega (arith, trees_long π n a b A S S s)) in
      and_row k (t.row - 1) (u.row - 1) (here_at rs u.row own ho 0 k (omega arith) (omega arith))
      (first_below a b A S S s k (omega arith)) (second_below a b A S S s k (omega arith)) q.first q.second

  pub says_disj : (a b : Form) → Says a → Says b → Says (disj a b)
  unfolding Says rows_of rows_in Condition
  says_disj a b sa sb A S s h =
      let t = after π n a s in
      let u = after π n b t in
      let xs = rows_of π n a A S s ++ rows_of π n b A S t in
      let own = OR (t.row - 1) (u.row - 1) ∷ [] in
      let k = s.row + (rows_in π n a + rows_in π n b + 1) - 1 in
      let q = both a b sa sb A S S s (here_first rs s.row xs own h) in
      let ho = here_second rs s.row xs own u.row h (omega (arith, trees_long π n a b A S S s)) in
      or_row k (t.row - 1) (u.row - 1) (here_at rs u.row own ho 0 k (omega arith) (omega arith))
      (first_below a b A S S s k (omega arith)) (second_below a b A S S s k (omega arith)) q.first q.second

  pub says_but : (a b : Form) → Says a → Says b → Says (but a b)
  unfolding Says rows_of rows_in Condition
  says_but a b sa sb A S s h =
      let t = after π n a s in
      let u = after π n b t in
      let xs = rows_of π n a A S s ++ rows_of π n b A S t in
      let own = NOT (u.row - 1) ∷ AND (t.row - 1) u.row ∷ [] in
      let k = s.row + (rows_in π n a + rows_in π n b + 2) - 1 in
      let q = both a b sa sb A S S s (here_first rs s.row xs own h) in
      let ho = here_second rs s.row xs own u.row h (omega (arith, trees_long π n a b A S S s)) in
      let no = not_row u.row (u.row - 1) (here_at rs u.row own ho 0 u.row (omega arith) (omega arith)) (second_below a b A S S s u.row (omega arith)) q.second in
      and_row k (t.row - 1) u.row (here_at rs u.row own ho 1 k (omega arith) (omega arith))
      (first_below a b A S S s k (omega arith)) (omega arith) q.first no

  pub says_neg : (a : Form) → Says a → Says (neg a)
  unfolding Says rows_of rows_in Condition
  says_neg a sa A S s h =
      let t = after π n a s in
      let xs = rows_of π n a A S s in
      let own = NOT (t.row - 1) ∷ [] in
      let k = s.row + (rows_in π n a + 1) - 1 in
      let ho = here_second rs s.row xs own t.row h (omega (arith, rows_long π n a A S s)) in
      not_row k (t.row - 1) (here_at rs t.row own ho 0 k (omega arith) (omega arith)) (omega (arith, rows_some π n a)) (sa A S s (here_first rs s.row xs own h))

  -- a row by another name of its number
  pub row_at : (j k : ℕ) {P : Type 0} → j ≡ k → RowHolds v ν rs j ↔ P → RowHolds v ν rs k ↔ P
  row_at j k e f = rw (← e) f

  -- the row after the result so far, and their AND
  pub also_row : (r : ℕ) (x : Row) {P Q : Type 0} → Here rs (r + 1) (also r x) → RowHolds v ν rs r ↔ P → Means v ν (HoldsBefore v ν rs (r + 1)) x ↔ Q → RowHolds v ν rs (r + 2) ↔ (P × Q)
  also_row r x h f g =
      and_row (r + 2) r (r + 1) (here_at rs (r + 1) (also r x) h 1 (r + 2) (omega arith) (omega arith)) (omega arith) (omega arith) f
      (iff_trans (iff_of (row_is (r + 1) x (here_at rs (r + 1) (also r x) h 0 (r + 1) (omega arith) (omega arith)))) g)

  -- APART, where the profile asks it
  pub apart_row : (ρ : Profile) (r A S T : ℕ) {P : Type 0} → Here rs (r + 1) (also_apart ρ r (APART A S T)) → RowHolds v ν rs r ↔ P → RowHolds v ν rs (r + apart_row_count ρ) ↔ (P × Apart ρ v ν.stack (ν.array A) (ν.set S) (ν.set T))
  unfolding Means
  apart_row Strong r A S T h f = also_row r (APART A S T) h f (λ q. q, λ q. q)
  apart_row Ordinary r A S T h f = row_at r (r + 0) (omega arith) (iff_trans f (λ q. (q, λ ℓ x y. tt), λ q. q.0))
