-- A text without `not` and `wand` that tells the profiles apart, since its `=` holds on any heap. Assumes nothing.
use Rattle.std.specs.Prelude.{refl, List, [], ◌∷◌, ◌++◌, ℕ, length}
use Rattle.logic.specs.declared.Profile.TheVariants.{Strong, Ordinary}
use Rattle.logic.specs.Numbers.{yes_number, no_number}
use Rattle.logic.specs.Tests.{any, all, digit, in_part, part, rest, without, named, empty, is_value, in_locs, within, apart_at, apart, points, chain, stepped, path_from, short, sep_at}
use Rattle.logic.specs.Truth.{truth}
use Rattle.logic.specs.Table.{kind_of, uses, tree, deep, form_of, atom_of, join_of, join_from5}
use Rattle.logic.specs.Book.{head_of}
use Rattle.logic.specs.Model.{stack_in, heap_in}
use Rattle.logic.specs.Computed.{laid_out, bounds_ok, formula_ok, operand_ok, node_ok, table_ok, accepted, model_ok, fits_book}
use Rattle.logic.specs.JudgeExamples.{JudgedRight, judged_test}
use Rattle.logic.proofs.JudgeExamples.{judged_right}
use Rattle.grammar.specs.ProfileExample.{beside_formula}

abbrev beside_book : List ℕ
beside_book = head_of 2 1 3 3 (length beside_formula) ++ beside_formula

-- x = 1 ; 1 → 3, 2 → 3, 3 → 0: the list has the cells 1 and 3, and cell 2 beside it meets it at 3, which is not named
abbrev beside_model : List ℕ
beside_model = 1 ∷ 3 ∷ 3 ∷ 0 ∷ []

pub told_apart : JudgedRight (record { profile = Strong; book = beside_book; model = beside_model; number = no_number }) × JudgedRight (record { profile = Ordinary; book = beside_book; model = beside_model; number = yes_number })
unfolding judged_test accepted laid_out bounds_ok formula_ok node_ok operand_ok table_ok model_ok fits_book short path_from stepped stack_in heap_in truth any all digit in_part part rest without named empty is_value in_locs within apart_at apart points chain sep_at kind_of uses tree deep form_of atom_of join_of join_from5
told_apart = (judged_right _ refl, judged_right _ refl)
