-- The table of an accepted book has at most 764 rows, 32 arrays and 63 sets. Assumes nothing.
use Rattle.std.specs.Prelude.{◌≡◌, refl, List, ℕ, suc, ◌+◌, ◌*◌, ◌<◌, ◌≤◌}
use Rattle.std.proofs.Common.{arith}
use Rattle.logic.specs.declared.Profile.{Profile}
use Rattle.logic.specs.declared.Profile.TheVariants.{Strong, Ordinary}
use Rattle.logic.specs.Table.{op_of, kind_of, Sound, Tree, atom_of, join_of, join_from5, tree}
use Rattle.logic.proofs.Operators.{each_atom, each_join, each_operator}
use Rattle.logic.specs.Weight.{kid, Adds}
use Rattle.logic.proofs.Weight.{adds_up}
use Rattle.logic.specs.Children.{none, one, two}
use Rattle.logic.proofs.Children.{nodes_counted, children_counted, at_most}
use Rattle.logic.specs.Book.{most}
use Rattle.rows.specs.Table.{arrays_in, sets_in, apart_row_count, rows_in, arrays, sets}
use Rattle.rows.specs.Bounds.{most_rows, most_arrays, most_sets, own_row_count, own_arrays, own_sets}

apart_le : (π : Profile) → apart_row_count π ≤ 2
apart_le Strong = omega arith
apart_le Ordinary = omega arith

-- ---- rows, arrays and sets add up

pub rows_add : (π : Profile) (n : ℕ) → Adds (rows_in π n) (λ o x y. own_row_count π n o)
unfolding rows_in own_row_count atom_of join_of join_from5 kind_of
rows_add π n =
    record {
      atom = λ o x y. each_atom (λ o. rows_in π n (atom_of o x y) ≡ own_row_count π n o) refl refl refl refl o;
      join = λ o x y a b. each_join (λ o. rows_in π n (join_of o a b) ≡ own_row_count π n o + (kid o 0 (rows_in π n a) + kid o 1 (rows_in π n b)))
          (omega arith) (omega arith) (omega arith) (omega arith) (omega arith) (omega arith) o;
    }

pub arrays_add : Adds arrays_in (λ o x y. own_arrays o)
unfolding arrays_in own_arrays atom_of join_of join_from5 kind_of
arrays_add =
    record {
      atom = λ o x y. each_atom (λ o. arrays_in (atom_of o x y) ≡ own_arrays o) refl refl refl refl o;
      join = λ o x y a b. each_join (λ o. arrays_in (join_of o a b) ≡ own_arrays o + (kid o 0 (arrays_in a) + kid o 1 (arrays_in b)))
          (omega arith) (omega arith) (omega arith) (omega arith) (omega arith) (omega arith) o;
    }

pub sets_add : Adds sets_in (λ o x y. own_sets o)
unfolding sets_in own_sets atom_of join_of join_from5 kind_of
sets_add =
    record {
      atom = λ o x y. each_atom (λ o. sets_in (atom_of o x y) ≡ own_sets o) refl refl refl refl o;
      join = λ o x y a b. each_join (λ o. sets_in (join_of o a b) ≡ own_sets o + (kid o 0 (sets_in a) + kid o 1 (sets_in b)))
          (omega arith) (omega arith) (omega arith) (omega arith) (omega arith) (omega arith) o;
    }

-- ---- the whole tree

-- what a node of operator o adds at the most, by how many children it has
record Kind (π : Profile) (locs o : ℕ) : Type 0 where
  rows : own_row_count π locs o ≤ none o * (2 * most + 1) + one o * 1 + two o * 7
  arrays : own_arrays o ≤ none o * 0 + one o * 0 + two o * 1
  sets : own_sets o ≤ none o * 0 + one o * 0 + two o * 2

kind : (π : Profile) (locs o : ℕ) → locs ≤ most → 1 ≤ o → o ≤ 10 → Kind π locs o
unfolding own_row_count own_arrays own_sets
kind π locs o q =
    each_operator (Kind π locs)
    (record { rows = omega (arith, apart_le π); arrays = omega arith; sets = omega arith })
    (record { rows = omega (arith, apart_le π); arrays = omega arith; sets = omega arith })
    (record { rows = omega (arith, apart_le π); arrays = omega arith; sets = omega arith })
    (record { rows = omega (arith, apart_le π); arrays = omega arith; sets = omega arith })
    (record { rows = omega (arith, apart_le π); arrays = omega arith; sets = omega arith })
    (record { rows = omega (arith, apart_le π); arrays = omega arith; sets = omega arith })
    (record { rows = omega (arith, apart_le π); arrays = omega arith; sets = omega arith })
    (record { rows = omega (arith, apart_le π); arrays = omega arith; sets = omega arith })
    (record { rows = omega (arith, apart_le π); arrays = omega arith; sets = omega arith })
    (record { rows = omega (arith, apart_le π); arrays = omega arith; sets = omega arith })
    o

module _ (v locs : ℕ) (f : List ℕ) (n : ℕ) (ok : Sound v f n) (t : Tree f n) (m : ℕ) (e : n ≡ suc m) (few : n ≤ 64) (low : locs ≤ most) where
  at : (π : Profile) (k : ℕ) → k < n → Kind π locs (op_of f k)
  at π k l = kind π locs (op_of f k) low (ok k l).operator.0 (ok k l).operator.1

  -- with LONG and its AND
  pub rows_few : (π : Profile) → rows_in π locs (tree f m) + 2 ≤ most_rows
  rows_few π =
      let less = at_most v f n ok t m e (λ k. own_row_count π locs (op_of f k)) (2 * most + 1) 1 7 (λ k l. (at π k l).rows) in
      omega (arith, adds_up v f n ok t m e (rows_in π locs) (λ o x y. own_row_count π locs o) (rows_add π locs), less, nodes_counted v f n ok t m e, children_counted v f n ok t m e)

  pub arrays_few : arrays (tree f m) ≤ most_arrays
  arrays_few =
      let less = at_most v f n ok t m e (λ k. own_arrays (op_of f k)) 0 0 1 (λ k l. (at Strong k l).arrays) in
      omega (arith, adds_up v f n ok t m e arrays_in (λ o x y. own_arrays o) arrays_add, less, nodes_counted v f n ok t m e, children_counted v f n ok t m e)

  pub sets_few : sets (tree f m) ≤ most_sets
  sets_few =
      let less = at_most v f n ok t m e (λ k. own_sets (op_of f k)) 0 0 2 (λ k l. (at Strong k l).sets) in
      omega (arith, adds_up v f n ok t m e sets_in (λ o x y. own_sets o) sets_add, less, nodes_counted v f n ok t m e, children_counted v f n ok t m e)
