-- The most rows, bytes, arrays and sets of a table, and how many a node adds. Assumes nothing: these are definitions.
use Rattle.std.specs.Prelude.{ℕ, ◌+◌, eqb, leb}
use Rattle.logic.specs.declared.Profile.{Profile}
use Rattle.logic.specs.Tests.{pick}
use Rattle.rows.specs.Table.{apart_row_count}

-- "the encoding at most 764 rows and 7,654 bytes"
abbrev pub most_rows : ℕ
most_rows = 764

abbrev pub most_bytes : ℕ
most_bytes = 7654

-- "The judge has up to 32 arrays"
abbrev pub most_arrays : ℕ
most_arrays = 32

abbrev pub most_sets : ℕ
most_sets = 63

-- how many own rows a node of operator o has, over n locations
unfoldable pub own_row_count : Profile → ℕ → ℕ → ℕ
own_row_count π n o =
    pick (leb o 3) 3 (pick (leb o 4) (n + 1 + n) (pick (eqb o 7) 2 (pick (leb o 8) 1 (pick (leb o 9) (3 + apart_row_count π) (5 + apart_row_count π)))))

-- how many arrays and sets it makes
unfoldable pub own_arrays : ℕ → ℕ
own_arrays o = pick (leb o 9) 0 1

unfoldable pub own_sets : ℕ → ℕ
own_sets o = pick (leb o 8) 0 2
