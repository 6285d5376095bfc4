-- What the encoder's statement gives: one answer and one output, and how large an encoding is. Assumes nothing.
use Rattle.std.specs.Prelude.{◌≡◌, refl, List, [], ◌∷◌, ◌++◌, ℕ, suc, ◌+◌, ◌*◌, ◌≤◌, length}
use Rattle.std.proofs.Common.{sym, ap, ◌∙◌, append_assoc, arith, length-append}
use Rattle.std.proofs.Math.Decide.{ℕ_discrete}
use Rattle.logic.specs.declared.Profile.{Profile}
use Rattle.logic.specs.declared.Answer.{Answer}
use Rattle.logic.specs.CheckLaws.{Yes}
use Rattle.logic.proofs.CheckLaws.{answers_single, yes_single}
use Rattle.logic.specs.Book.{book_formula, vars_of, locs_of, path_of, formula_of, nodes, root, Whole}
use Rattle.rows.specs.Row.{Row, fields_of, ten_bytes, bytes_of}
use Rattle.rows.specs.Table.{rows_in, arrays, sets}
use Rattle.rows.proofs.TableLaws.{table_long}
use Rattle.rows.specs.Bounds.{most_rows, most_bytes, most_arrays, most_sets}
use Rattle.rows.proofs.BoundsLaws as trees
use Rattle.rows.specs.Output.{book_rows, encoding_of, encode_checks, Encodes}

-- two results that the encoder's statement allows are equal
pub encodes_single : (π : Profile) (s o : List ℕ) (a b : Answer) (x y : List ℕ) → Encodes π s o a x → Encodes π s o b y → (a ≡ b) × (x ≡ y)
encodes_single π s o a b x y p q = (same, outputs (ℕ_discrete a.number 0))
  where
    same : a ≡ b
    same = answers_single (encode_checks π s o) Yes yes_single a b p.number q.number

    outputs : Dec (a.number ≡ 0) → x ≡ y
    outputs (yes e) = p.written e ∙ sym (q.written (ap (λ (r : Answer). r.number) (sym same) ∙ e))
    outputs (no e) = p.refused e ∙ sym (q.refused (λ z. e (ap (λ (r : Answer). r.number) same ∙ z)))

pub bytes_append : (xs ys : List Row) → bytes_of (xs ++ ys) ≡ bytes_of xs ++ bytes_of ys
unfolding bytes_of
bytes_append [] ys = refl
bytes_append (x ∷ xs) ys = rw (bytes_append xs ys) (sym (append_assoc (ten_bytes (fields_of x)) (bytes_of xs) (bytes_of ys)))

pub bytes_long : (xs : List Row) → length (bytes_of xs) ≡ 10 * length xs
unfolding bytes_of
bytes_long [] = refl
bytes_long (x ∷ xs) = simp length-append (omega (arith, bytes_long xs))

pub encoding_long : (π : Profile) (s : List ℕ) → length (encoding_of π s) ≡ 14 + 10 * (rows_in π (locs_of s) (book_formula s) + 2)
unfolding encoding_of
encoding_long π s = omega (arith, bytes_long (book_rows π s), table_long π (locs_of s) (path_of s) (book_formula s))

-- ---- an accepted book's

module _ (s : List ℕ) (w : Whole s) where
  last : nodes (formula_of s) ≡ suc (root (formula_of s))
  last = omega (arith, w.some)

  pub rows_few : (π : Profile) → length (book_rows π s) ≤ most_rows
  rows_few π =
      omega (arith, table_long π (locs_of s) (path_of s) (book_formula s), trees.rows_few (vars_of s) (locs_of s) (formula_of s) (nodes (formula_of s)) w.sound w.tree (root (formula_of s)) last w.few w.bounds.locs π)

  pub bytes_few : (π : Profile) → length (encoding_of π s) ≤ most_bytes
  bytes_few π = omega (arith, encoding_long π s, table_long π (locs_of s) (path_of s) (book_formula s), rows_few π)

  pub arrays_few : arrays (book_formula s) ≤ most_arrays
  arrays_few = trees.arrays_few (vars_of s) (locs_of s) (formula_of s) (nodes (formula_of s)) w.sound w.tree (root (formula_of s)) last w.few w.bounds.locs

  pub sets_few : sets (book_formula s) ≤ most_sets
  sets_few = trees.sets_few (vars_of s) (locs_of s) (formula_of s) (nodes (formula_of s)) w.sound w.tree (root (formula_of s)) last w.few w.bounds.locs
