-- Two benches whose bounds go up to k and to j refuse a book alike, where its bounds are within both. Assumes nothing.
use Rattle.std.specs.Prelude.{List, ℕ}
use Rattle.logic.specs.Numbers.{bounds, formula_length}
use Rattle.logic.specs.Checks.{done, check}
use Rattle.logic.specs.Book.{stretch, vars_of, formula_of, BoundsWithin, FormulaOk, contents_checks, table_checks, book_checks_within}
use Rattle.raised.specs.Alike.{Alike, part}
use Rattle.raised.proofs.AlikeLaws.{alike_same, alike_then}

pub book_alike : (k j : ℕ) (s : List ℕ) → BoundsWithin k (stretch s 0) → BoundsWithin j (stretch s 0) → Alike (book_checks_within k s) (book_checks_within j s)
book_alike k j s b c =
    alike_then (alike_same (contents_checks s))
    (alike_then (part bounds 0 (λ _. c, λ _. b) (alike_same (check (FormulaOk (formula_of s)) formula_length 0 done))) (alike_same (table_checks (vars_of s) (formula_of s))))
