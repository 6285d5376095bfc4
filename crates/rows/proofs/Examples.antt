-- Document 01's P1: the encoding of x ↦ x. Assumes nothing.
use Rattle.std.specs.Prelude.{◌≡◌, refl, [], ◌∷◌}
use Rattle.logic.specs.declared.Profile.TheVariants.{Strong}
use Rattle.logic.specs.Table.{tree, deep, form_of, atom_of, join_of, join_from5}
use Rattle.rows.specs.Row.{fields_of, bytes_of}
use Rattle.rows.specs.Table.{rows_of, rows_in, arrays_in, sets_in}
use Rattle.rows.specs.Output.{encoding_of}
use Rattle.rows.specs.Examples.{p1}

-- "P1's encoding is 64 bytes": a head of 14, ONE, AT and AND as before, then LONG over array 0 and set 0 with p = 1, and AND
pub p1_encoding : encoding_of Strong p1 ≡
    2 ∷ 1 ∷ 11 ∷ 0 ∷ 3 ∷ 0 ∷ 3 ∷ 14 ∷ 0 ∷ 50 ∷ 0 ∷ 1 ∷ 1 ∷ 1
    ∷ 4 ∷ 0 ∷ 0 ∷ 0 ∷ 1 ∷ 0 ∷ 0 ∷ 0 ∷ 0 ∷ 0
    ∷ 5 ∷ 0 ∷ 0 ∷ 0 ∷ 1 ∷ 0 ∷ 1 ∷ 0 ∷ 0 ∷ 0
    ∷ 7 ∷ 0 ∷ 0 ∷ 0 ∷ 1 ∷ 0 ∷ 0 ∷ 0 ∷ 0 ∷ 0
    ∷ 13 ∷ 1 ∷ 0 ∷ 0 ∷ 0 ∷ 0 ∷ 0 ∷ 0 ∷ 0 ∷ 0
    ∷ 7 ∷ 0 ∷ 2 ∷ 0 ∷ 3 ∷ 0 ∷ 0 ∷ 0 ∷ 0 ∷ 0 ∷ []
unfolding encoding_of bytes_of fields_of rows_of rows_in arrays_in sets_in tree deep form_of atom_of join_of join_from5
p1_encoding = refl
