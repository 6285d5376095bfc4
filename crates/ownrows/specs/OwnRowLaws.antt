-- An operator's own rows, from the rows that are written one by one. Assumes nothing.
use Rattle.std.specs.Prelude.{◌≡◌, List, [], ◌∷◌, ◌++◌}
use Rattle.std.proofs.Math.Path.{refl}
use Rattle.std.proofs.Common.{ap, ap₂, ◌∙◌, le-leb}
use Prim.Native.Nat.{ℕ, suc, ◌+◌, ◌-◌, ◌*◌, ◌≤◌, ◌<◌}
use native.Mathlib.Omega.{arith}
use Rattle.std.proofs.Math.Numerals.{add-one}
use Rattle.std.proofs.Math.ListN.{length, length-append}
use Rattle.logic.specs.declared.Profile.{Profile}
use Rattle.logic.specs.declared.Profile.TheVariants.{Strong, Ordinary}
use Rattle.logic.specs.Table.{atom_of}
use Rattle.rows.specs.declared.Fields.{Fields}
use Rattle.rows.specs.declared.Next.{Next}
use Rattle.rows.specs.Row.{Row, plain, fields_of, ten_bytes, bytes_of}
use Rattle.rows.specs.Row.Row.{EQ, NE, EMPTY, ONE, AT, CHAIN, AND, OR, SPLIT, APART, SAME, LONG}
use Rattle.rows.specs.Table.{arrays_in, sets_in, chains, ors, so_far, also, also_apart, apart_row_count, sep_rows, sept_rows, rows_in, rows_of}
use Rattle.rows.proofs.TableLaws.{chains_long, ors_long, apart_long}
use Rattle.rows.specs.Bounds.{own_row_count}
use Rattle.rows.proofs.BoundsLaws.{rows_add}
use Rattle.rowbytes.specs.Written.{Puts, Space}
use Rattle.rowbytes.specs.WrittenLaws.{row_after, puts_as, one_row, rows_rows, puts_none}
use Rattle.ownrows.specs.Encoded.{Room, Encoded}

-- two rows and their AND
pub pair_rows_put : (X Y : Row) {x y : Fields} {s w : Next} {o now : List ℕ} (r : ℕ) → x ≡ fields_of X → y ≡ fields_of Y → Puts s 3 0 0 (ten_bytes x ++ ten_bytes y ++ bytes_of (AND r (r + 1) ∷ [])) w o now
    → Puts s 3 0 0 (bytes_of (X ∷ Y ∷ AND r (r + 1) ∷ [])) w o now
unfolding bytes_of
pair_rows_put X Y r d e p = puts_as refl refl refl (ap₂ (λ (a b : Fields). ten_bytes a ++ ten_bytes b ++ bytes_of (AND r (r + 1) ∷ [])) d e) p

-- a row and the AND of row r, the one before it, with it
pub also_rows : (X : Row) (r : ℕ) {x : Fields} {s w : Next} {o now : List ℕ} → x ≡ fields_of X → s.row ≡ r + 1
    → Puts s 2 0 0 (ten_bytes x ++ bytes_of (AND (s.row - 1) s.row ∷ [])) w o now → Puts s 2 0 0 (bytes_of (also r X)) w o now
unfolding bytes_of
also_rows X r {x} {s} d e q =
    let a : s.row - 1 ≡ r = omega arith in
    puts_as refl refl refl
    (ap₂ (λ (y : Fields) (k : ℕ). ten_bytes y ++ bytes_of (AND k s.row ∷ [])) d a ∙ ap (λ (k : ℕ). ten_bytes (fields_of X) ++ bytes_of (AND r k ∷ [])) e) q

-- the last two rows: LONG, and the AND of the formula's row with it
pub long_rows : (p : ℕ) {x : Fields} {s w : Next} {o now : List ℕ} → 0 < s.row → x ≡ fields_of (LONG 0 0 p)
    → Puts s 2 0 0 (ten_bytes x ++ bytes_of (AND (s.row - 1) s.row ∷ [])) w o now → Puts s 2 0 0 (bytes_of (also (s.row - 1) (LONG 0 0 p))) w o now
long_rows p {x} {s} l d q = also_rows (LONG 0 0 p) (s.row - 1) d (omega arith) q

-- ---- a list's chains and ORs

module _ (A S x y : ℕ) where
  pub chains_none : (s : Next) (o : List ℕ) → Puts s 0 0 0 (bytes_of (chains A S x y 0)) s o o
  unfolding chains bytes_of
  chains_none s o = puts_none s o

  pub chains_more : (k : ℕ) {z : Fields} {s t u : Next} {o o₁ o₂ : List ℕ} → 10 * (s.row + k) ≤ length o → Puts s k 0 0 (bytes_of (chains A S x y k)) t o o₁
      → z ≡ fields_of (CHAIN A S x y k) → Puts t 1 0 0 (ten_bytes z) u o₁ o₂ → Puts s (k + 1) 0 0 (bytes_of (chains A S x y (k + 1))) u o o₂
  unfolding chains
  chains_more k h p e q =
      let n : k + 1 ≡ suc k = add-one k in
      puts_as refl refl refl (rw n) (rows_rows (chains A S x y k) (CHAIN A S x y k ∷ []) (chains_long A S x y k) h p (one_row (CHAIN A S x y k) e q))

module _ (r q : ℕ) where
  pub ors_none : (s : Next) (o : List ℕ) → Puts s 0 0 0 (bytes_of (ors r q 0)) s o o
  unfolding ors bytes_of
  ors_none s o = puts_none s o

  pub ors_more : (k x y : ℕ) {s t u : Next} {o o₁ o₂ : List ℕ} → 10 * (s.row + k) ≤ length o → Puts s k 0 0 (bytes_of (ors r q k)) t o o₁
      → x ≡ so_far r q k → y ≡ r + k + 1 → Puts t 1 0 0 (bytes_of (OR x y ∷ [])) u o₁ o₂ → Puts s (k + 1) 0 0 (bytes_of (ors r q (k + 1))) u o o₂
  unfolding ors
  ors_more k x y h p d e w =
      let n : k + 1 ≡ suc k = add-one k in
      puts_as refl refl refl (rw (n, d, e)) (rows_rows (ors r q k) (OR x y ∷ []) (ors_long r q k) h p w)

  pub so_far_start : r ≡ so_far r q 0
  unfolding so_far
  so_far_start = refl

  pub so_far_next : (k x : ℕ) → x ≡ q + k → x ≡ so_far r q (k + 1)
  unfolding so_far
  so_far_next k x e = rw (add-one k) e

-- ---- own rows of operators 9 and 10

module _ (π : Profile) (S i l : ℕ) {s t u w : Next} {x : Fields} {o o₁ o₂ o₃ : List ℕ} where
  pub sep_rows_put : (A : ℕ) → Space s (3 + apart_row_count π) o → Puts s 1 0 0 (bytes_of (AND (l - 1) (s.row - 1) ∷ [])) t o o₁
      → x ≡ plain 10 S i (i + 1) → Puts t 2 0 0 (ten_bytes x ++ bytes_of (AND (t.row - 1) t.row ∷ [])) u o₁ o₂
      → Puts u (apart_row_count π) 0 0 (bytes_of (also_apart π (u.row - 1) (APART A i (i + 1)))) w o₂ o₃
      → Puts s (3 + apart_row_count π) 0 0 (bytes_of (sep_rows π A S i (i + 1) l s.row)) w o o₃
  unfolding fields_of
  sep_rows_put A h p d q r =
      let m = s.row in
      let n = row_after p in
      let k = row_after q in
      let last : u.row - 1 ≡ m + 2 = omega arith in
      rows_rows (AND (l - 1) (m - 1) ∷ also m (SPLIT S i (i + 1))) (also_apart π (m + 2) (APART A i (i + 1))) refl (omega (arith, h.out))
      (rows_rows (AND (l - 1) (m - 1) ∷ []) (also m (SPLIT S i (i + 1))) refl (omega (arith, h.out)) p (also_rows (SPLIT S i (i + 1)) m d n q))
      (puts_as refl refl refl (ap (λ (j : ℕ). bytes_of (also_apart π j (APART A i (i + 1)))) last) r)

module _ (π : Profile) (A B S i l : ℕ) {s t u w k : Next} {x z : Fields} {o o₁ o₂ o₃ o₄ : List ℕ} where
  pub sept_rows_put : Space s (5 + apart_row_count π) o → Puts s 1 0 0 (bytes_of (AND (l - 1) (s.row - 1) ∷ [])) t o o₁
      → x ≡ plain 10 (i + 1) i S → Puts t 2 0 0 (ten_bytes x ++ bytes_of (AND (t.row - 1) t.row ∷ [])) u o₁ o₂
      → Puts u (apart_row_count π) 0 0 (bytes_of (also_apart π (u.row - 1) (APART B i S))) w o₂ o₃
      → z ≡ plain 12 A B S → Puts w 2 0 0 (ten_bytes z ++ bytes_of (AND (w.row - 1) w.row ∷ [])) k o₃ o₄
      → Puts s (5 + apart_row_count π) 0 0 (bytes_of (sept_rows π A B S i (i + 1) l s.row)) k o o₄
  unfolding fields_of
  sept_rows_put h p d q r f v =
      let m = s.row in
      let n₁ = row_after p in
      let n₂ = row_after q in
      let n₃ = row_after r in
      let split = also m (SPLIT (i + 1) i S) in
      let apart = also_apart π (m + 2) (APART B i S) in
      let front = (AND (l - 1) (m - 1) ∷ split) ++ apart in
      let last : u.row - 1 ≡ m + 2 = omega arith in
      let long : length front ≡ 3 + apart_row_count π = omega (arith, length-append (AND (l - 1) (m - 1) ∷ split) apart, apart_long π (m + 2) (APART B i S)) in
      let all : 3 + apart_row_count π + 2 ≡ 5 + apart_row_count π = omega arith in
      puts_as all refl refl refl
      (rows_rows front (also (m + 2 + apart_row_count π) (SAME A B S)) long (omega (arith, h.out))
      (rows_rows (AND (l - 1) (m - 1) ∷ split) apart refl (omega (arith, h.out))
      (rows_rows (AND (l - 1) (m - 1) ∷ []) split refl (omega (arith, h.out)) p (also_rows (SPLIT (i + 1) i S) m d n₁ q))
      (puts_as refl refl refl (ap (λ (j : ℕ). bytes_of (also_apart π j (APART B i S))) last) r))
      (also_rows (SAME A B S) (m + 2 + apart_row_count π) f (omega arith) v))

-- APART and its AND, where the profile asks for them
module _ (π : Profile) (A S T : ℕ) {s : Next} {o : List ℕ} where
  pub apart_rows_put : {x : Fields} {w : Next} {now : List ℕ} → π ≡ Strong → 0 < s.row → x ≡ plain 11 A S T
      → Puts s 2 0 0 (ten_bytes x ++ bytes_of (AND (s.row - 1) s.row ∷ [])) w o now → Puts s (apart_row_count π) 0 0 (bytes_of (also_apart π (s.row - 1) (APART A S T))) w o now
  unfolding fields_of
  apart_rows_put e l d q = rw e (also_rows (APART A S T) (s.row - 1) d (omega arith) q)

  pub apart_none : π ≡ Ordinary → Puts s (apart_row_count π) 0 0 (bytes_of (also_apart π (s.row - 1) (APART A S T))) s o o
  unfolding bytes_of
  apart_none e = rw e (puts_none s o)

-- ---- atoms, whose rows are the same in both profiles

module _ (n op x y A S : ℕ) (s : Next) (o : List ℕ) where
  -- operators 1 to 3 have three rows, operator 4 has n + 1 and n
  pub space_pair : 1 ≤ op → op ≤ 3 → Room Strong n (atom_of op x y) s o → Space s 3 o
  unfolding own_row_count
  space_pair h l r =
      let e : rows_in Strong n (atom_of op x y) ≡ 3 = (rows_add Strong n).atom op x y h (omega arith) ∙ rw (le-leb op 3 l) in
      record { out = omega (arith, r.space.out); row = omega (arith, r.space.row) }

  pub space_ls : op ≡ 4 → Room Strong n (atom_of op x y) s o → Space s (n + 1 + n) o
  unfolding atom_of rows_in
  space_ls e r = let q : Room Strong n (atom_of 4 x y) s o = rw e at r in q.space

  module _ (a b : Fields) (t : Next) (now : List ℕ) (q : Puts s 3 0 0 (ten_bytes a ++ ten_bytes b ++ bytes_of (AND s.row (s.row + 1) ∷ [])) t o now) where
    pub same_rows : op ≡ 1 → a ≡ plain 1 x y 0 → b ≡ plain 3 S 0 0 → Encoded Strong n (atom_of op x y) A S s t o now
    unfolding atom_of rows_in arrays_in sets_in rows_of fields_of
    same_rows e d f = rw e (pair_rows_put (EQ x y) (EMPTY S) s.row d f q)

    pub diff_rows : op ≡ 2 → a ≡ plain 2 x y 0 → b ≡ plain 3 S 0 0 → Encoded Strong n (atom_of op x y) A S s t o now
    unfolding atom_of rows_in arrays_in sets_in rows_of fields_of
    diff_rows e d f = rw e (pair_rows_put (NE x y) (EMPTY S) s.row d f q)

    pub pts_rows : op ≡ 3 → a ≡ plain 4 S x 0 → b ≡ plain 5 A x y → Encoded Strong n (atom_of op x y) A S s t o now
    unfolding atom_of rows_in arrays_in sets_in rows_of fields_of
    pts_rows e d f = rw e (pair_rows_put (ONE S x) (AT A x y) s.row d f q)

  pub ls_rows : (t u : Next) (o₁ o₂ : List ℕ) → op ≡ 4 → Space s (n + 1 + n) o → Puts s (n + 1) 0 0 (bytes_of (chains A S x y (n + 1))) t o o₁
      → Puts t n 0 0 (bytes_of (ors s.row t.row n)) u o₁ o₂ → Encoded Strong n (atom_of op x y) A S s u o o₂
  unfolding atom_of rows_in arrays_in sets_in rows_of
  ls_rows t u o₁ o₂ e h q r =
      rw e (rows_rows (chains A S x y (n + 1)) (ors s.row (s.row + (n + 1)) n) (chains_long A S x y (n + 1)) (omega (arith, h.out)) q
      (puts_as refl refl refl (ap (λ (k : ℕ). bytes_of (ors s.row k n)) (row_after q)) r))
