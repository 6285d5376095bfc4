-- The program's example: for P1's book it prints exactly the lines that document 01 shows. Assumes nothing.
use Rattle.std.specs.Prelude.{◌≡◌, refl, true, List, [], ◌∷◌, ℕ, drop}
use Rattle.std.proofs.Common.{ap₂, ◌∙◌, arith}
use Rattle.logic.specs.declared.Profile.TheVariants.{Strong}
use Rattle.logic.specs.declared.Answer.{Answer}
use Rattle.logic.specs.Numbers.{yes_number}
use Rattle.logic.specs.Tests.{any, all, digit, heap_of, points, stepped, path_from, short, same_bytes}
use Rattle.logic.specs.Truth.{truth}
use Rattle.logic.specs.Table.{kind_of, uses, tree, deep, form_of, atom_of}
use Rattle.logic.specs.Computed.{laid_out, bounds_ok, formula_ok, operand_ok, node_ok, table_ok, all_named, named_by_atom, accepted}
use Rattle.logic.specs.Candidates.{digits_of, bytes_to}
use Rattle.logic.specs.Trials.{fits_at, first, outcome_of}
use Rattle.logic.specs.SearchExamples.{Searched, searched_test, written, worked_out}
use Rattle.logic.proofs.SearchExamples.{searched_right}
use Rattle.lines.specs.Printed.{printed}
use Rattle.lines.specs.Shown.{p1_shown}
use Rattle.lines.specs.PrintedExamples.{p1_printed}
use Rattle.print.specs.Prints.{budget, blank, Prints}

-- "P1's book is 02 01 0B 00 03 00 02 0E 00 03 00 01 01 01 03 01 01."
abbrev p1_book : List ℕ
p1_book = 2 ∷ 1 ∷ 11 ∷ 0 ∷ 3 ∷ 0 ∷ 2 ∷ 14 ∷ 0 ∷ 3 ∷ 0 ∷ 1 ∷ 1 ∷ 1 ∷ 3 ∷ 1 ∷ 1 ∷ []

abbrev P1 : Searched
P1 = record { profile = Strong; book = p1_book; budget = budget; number = yes_number; tried = 6; model = 1 ∷ 1 ∷ [] }

p1_test : searched_test P1 ≡ true
unfolding searched_test worked_out written same_bytes fits_at first outcome_of digits_of bytes_to accepted laid_out bounds_ok formula_ok node_ok operand_ok table_ok all_named named_by_atom truth any all digit heap_of points stepped path_from short kind_of uses tree deep form_of atom_of
p1_test = refl

pub p1_prints : (lines : List ℕ) → Prints p1_book lines → lines ≡ p1_shown
p1_prints lines p =
    let found = searched_right P1 p1_test blank p.answer p.model (omega arith) p.search in
    p.shows ∙ ap₂ (λ (a : Answer) (m : List ℕ). printed a 1 1 m) found.0 found.1 ∙ p1_printed (drop 2 blank)
