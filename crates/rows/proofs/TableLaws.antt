-- How long a formula's rows are, and which row stands where. Assumes nothing.
use Rattle.std.specs.Prelude.{◌≡◌, List, [], ◌∷◌, ◌++◌, ℕ, zero, suc, ◌+◌, ◌<◌, ◌≤◌, length, get_or}
use Rattle.std.proofs.Math.Path.{refl}
use Rattle.std.proofs.Common.{sym, ap, ◌∙◌, ⊎_elim, not-suc-le-zero, eq-or-lt_of_le, le_of_suc-le-suc, get_or-append-add}
use native.Mathlib.Omega.{arith}
use Rattle.std.proofs.Math.ListN.{length-append, get_or-append}
use Rattle.std.proofs.lemmas.List.{get_or_at}
use Rattle.logic.specs.declared.Profile.{Profile}
use Rattle.logic.specs.declared.Profile.TheVariants.{Strong, Ordinary}
use Rattle.logic.specs.Formula.{Form}
use Rattle.logic.specs.Formula.Form.{same, diff, pts, ls, conj, disj, but, neg, sep, sept}
use Rattle.logic.specs.Table.{atom_of}
use Rattle.logic.proofs.Operators.{each_atom}
use Rattle.rows.specs.declared.Next.{Next}
use Rattle.rows.specs.Row.{Row}
use Rattle.rows.specs.Row.Row.{EQ, CHAIN, OR, APART}
use Rattle.rows.specs.Table.{two_sets, array_and_sets, after, chains, ors, so_far, apart_row_count, also_apart, rows_in, rows_of, start, table}
use Rattle.rows.specs.TableLaws.{Here}

pub chains_long : (A S x y k : ℕ) → length (chains A S x y k) ≡ k
unfolding chains
chains_long A S x y zero = refl
chains_long A S x y (suc k) = simp length-append (omega (arith, chains_long A S x y k))

pub ors_long : (r q m : ℕ) → length (ors r q m) ≡ m
unfolding ors
ors_long r q zero = refl
ors_long r q (suc m) = simp length-append (omega (arith, ors_long r q m))

-- CHAIN i stands at i
pub chains_at : (A S x y k i : ℕ) → i < k → get_or (chains A S x y k) i (EQ 0 0) ≡ CHAIN A S x y i
unfolding chains
chains_at A S x y zero i l = absurd (not-suc-le-zero l)
chains_at A S x y (suc k) i l =
    ⊎_elim (λ (e : i ≡ k). get_or_at (chains A S x y k) (CHAIN A S x y k) [] (EQ 0 0) i (chains_long A S x y k ∙ sym e) ∙ ap (CHAIN A S x y) (sym e))
    (λ (m : i < k). get_or-append (chains A S x y k) (CHAIN A S x y k ∷ []) (EQ 0 0) i (omega (arith, chains_long A S x y k)) ∙ chains_at A S x y k i m)
    (eq-or-lt_of_le (le_of_suc-le-suc l))

pub ors_at : (r q m i : ℕ) → i < m → get_or (ors r q m) i (EQ 0 0) ≡ OR (so_far r q i) (r + i + 1)
unfolding ors
ors_at r q zero i l = absurd (not-suc-le-zero l)
ors_at r q (suc m) i l =
    ⊎_elim (λ (e : i ≡ m). get_or_at (ors r q m) (OR (so_far r q m) (r + m + 1)) [] (EQ 0 0) i (ors_long r q m ∙ sym e) ∙ ap (λ (k : ℕ). OR (so_far r q k) (r + k + 1)) (sym e))
    (λ (z : i < m). get_or-append (ors r q m) (OR (so_far r q m) (r + m + 1) ∷ []) (EQ 0 0) i (omega (arith, ors_long r q m)) ∙ ors_at r q m i z)
    (eq-or-lt_of_le (le_of_suc-le-suc l))

pub apart_long : (π : Profile) (r : ℕ) (x : Row) → length (also_apart π r x) ≡ apart_row_count π
apart_long Strong r x = refl
apart_long Ordinary r x = refl

module _ (π : Profile) (n : ℕ) where
  pub rows_some : (F : Form) → 0 < rows_in π n F
  unfolding rows_in
  rows_some (same x y) = omega arith
  rows_some (diff x y) = omega arith
  rows_some (pts x y) = omega arith
  rows_some (ls x y) = omega arith
  rows_some (conj a b) = omega arith
  rows_some (disj a b) = omega arith
  rows_some (but a b) = omega arith
  rows_some (neg a) = omega arith
  rows_some (sep a b) = omega arith
  rows_some (sept a b) = omega arith

  -- what is to be shown of a formula
  abbrev pub Long : Form → Type 0
  Long F = (A S : ℕ) (s : Next) → length (rows_of π n F A S s) ≡ rows_in π n F

  pub rows_long : (F : Form) → Long F
  unfolding rows_of rows_in
  rows_long (same x y) A S s = refl
  rows_long (diff x y) A S s = refl
  rows_long (pts x y) A S s = refl
  rows_long (ls x y) A S s =
      simp length-append (omega (arith, chains_long A S x y (n + 1), ors_long s.row (s.row + (n + 1)) n))
  rows_long (conj a b) A S s = simp length-append (omega (arith, rows_long a A S s, rows_long b A S (after π n a s)))
  rows_long (disj a b) A S s = simp length-append (omega (arith, rows_long a A S s, rows_long b A S (after π n a s)))
  rows_long (but a b) A S s = simp length-append (omega (arith, rows_long a A S s, rows_long b A S (after π n a s)))
  rows_long (neg a) A S s = simp length-append (omega (arith, rows_long a A S s))
  rows_long (sep a b) A S s =
      simp length-append (omega (arith, rows_long a A s.set (two_sets s), rows_long b A (s.set + 1) (after π n a (two_sets s)), apart_long π ((after π n b (after π n a (two_sets s))).row + 2) (APART A s.set (s.set + 1))))
  rows_long (sept a b) A S s =
      simp length-append (omega (arith, rows_long a s.array s.set (array_and_sets s), rows_long b s.array (s.set + 1) (after π n a (array_and_sets s)), apart_long π ((after π n b (after π n a (array_and_sets s))).row + 2) (APART s.array s.set S)))

  -- two trees over array A
  pub trees_long : (a b : Form) (A S T : ℕ) (s : Next) → length (rows_of π n a A S s ++ rows_of π n b A T (after π n a s)) ≡ rows_in π n a + rows_in π n b
  trees_long a b A S T s = simp length-append (omega (arith, rows_long a A S s, rows_long b A T (after π n a s)))

-- atoms have the same rows in both profiles
module _ (π : Profile) (n x y : ℕ) where
  pub atom_long : (o : ℕ) → 1 ≤ o → o ≤ 4 → rows_in π n (atom_of o x y) ≡ rows_in Strong n (atom_of o x y)
  unfolding rows_in atom_of
  atom_long = each_atom (λ o. rows_in π n (atom_of o x y) ≡ rows_in Strong n (atom_of o x y)) refl refl refl refl

  pub atom_rows : (A S : ℕ) (s : Next) (o : ℕ) → 1 ≤ o → o ≤ 4 → rows_of π n (atom_of o x y) A S s ≡ rows_of Strong n (atom_of o x y) A S s
  unfolding rows_of atom_of
  atom_rows A S s = each_atom (λ o. rows_of π n (atom_of o x y) A S s ≡ rows_of Strong n (atom_of o x y) A S s) refl refl refl refl

-- a whole table: the formula's rows, LONG and its AND
pub table_long : (π : Profile) (n p : ℕ) (F : Form) → length (table π n p F) ≡ rows_in π n F + 2
table_long π n p F = simp length-append (omega (arith, rows_long π n F 0 0 start))

module _ (rs : List Row) (r : ℕ) where
  pub here_first : (xs ys : List Row) → Here rs r (xs ++ ys) → Here rs r xs
  here_first xs ys h i l =
      h i (omega (arith, length-append xs ys)) ∙ get_or-append xs ys (EQ 0 0) i l

  pub here_second : (xs ys : List Row) (k : ℕ) → Here rs r (xs ++ ys) → k ≡ r + length xs → Here rs k ys
  here_second xs ys k h e i l =
      let m : k + i ≡ r + (length xs + i) = omega arith in
      ap (λ (j : ℕ). get_or rs j (EQ 0 0)) m ∙ h (length xs + i) (omega (arith, length-append xs ys)) ∙ get_or-append-add xs ys i (EQ 0 0)

  pub here_at : (xs : List Row) → Here rs r xs → (i k : ℕ) → i < length xs → k ≡ r + i → get_or rs k (EQ 0 0) ≡ get_or xs i (EQ 0 0)
  here_at xs h i k l e = ap (λ (j : ℕ). get_or rs j (EQ 0 0)) e ∙ h i l
