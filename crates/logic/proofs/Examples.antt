-- Document 01's examples that are proved, P1 to P14, and some of paths, in one go over a table. Assumes nothing.
use Rattle.std.specs.Prelude.{◌≡◌, refl, Bool, true, List, [], ◌∷◌, ℕ, ◌<◌, length, get_or}
use Rattle.logic.specs.declared.Profile.TheVariants.{Strong, Ordinary}
use Rattle.logic.specs.Numbers.{yes_number, no_number, spent_number}
use Rattle.logic.specs.Tests.{same_bytes, any, all, digit, in_part, heap_of, part, rest, union, without, named, empty, is_value, in_locs, within, apart_at, apart, points, chain, stepped, path_from, short, sep_at, sept_at}
use Rattle.logic.specs.Truth.{truth}
use Rattle.logic.specs.Table.{kind_of, uses, tree, deep, form_of, atom_of, join_of, join_from5}
use Rattle.logic.specs.Model.{stack_in, heap_in}
use Rattle.logic.specs.Computed.{laid_out, bounds_ok, formula_ok, operand_ok, node_ok, table_ok, all_named, named_by_atom, accepted, model_ok, fits_book}
use Rattle.logic.specs.Candidates.{digits_of, bytes_to}
use Rattle.logic.specs.Trials.{fits_at, first, outcome_of}
use Rattle.logic.proofs.Entries.{every, entry_of}
use Rattle.logic.specs.JudgeExamples.{judged_test}
use Rattle.logic.proofs.JudgeExamples.{judged_right}
use Rattle.logic.specs.SearchExamples.{searched_test, written, worked_out}
use Rattle.logic.proofs.SearchExamples.{searched_right}
use Rattle.logic.specs.Examples.{Row, judge, search, Right}

-- the book with the bounds v, n, p and the formula f
book_of : ℕ → ℕ → ℕ → List ℕ → List ℕ
book_of v n p f = 2 ∷ 1 ∷ 11 ∷ 0 ∷ 3 ∷ 0 ∷ 2 ∷ 14 ∷ 0 ∷ length f ∷ 0 ∷ v ∷ n ∷ p ∷ f

-- E is nil = nil and N is ¬E. These are N * N; x ↦ nil * y ↦ nil; x ↦ x * (x ↦ nil −⊛ x ↦ nil); ls(x,nil) and its negation;
-- x ↦ nil −⊛ x ↦ nil; x ↦ y * y ↦ x; E ∧ ¬(N −⊛ N)
abbrev meet : List ℕ
meet = 1 ∷ 0 ∷ 0 ∷ 8 ∷ 0 ∷ 0 ∷ 1 ∷ 0 ∷ 0 ∷ 8 ∷ 2 ∷ 0 ∷ 9 ∷ 1 ∷ 3 ∷ []

abbrev two_cells : List ℕ
two_cells = 3 ∷ 1 ∷ 0 ∷ 3 ∷ 2 ∷ 0 ∷ 9 ∷ 0 ∷ 1 ∷ []

abbrev replaced : List ℕ
replaced = 3 ∷ 1 ∷ 1 ∷ 3 ∷ 1 ∷ 0 ∷ 3 ∷ 1 ∷ 0 ∷ 10 ∷ 1 ∷ 2 ∷ 9 ∷ 0 ∷ 3 ∷ []

abbrev queue : List ℕ
queue = 4 ∷ 1 ∷ 0 ∷ []

abbrev no_queue : List ℕ
no_queue = 4 ∷ 1 ∷ 0 ∷ 8 ∷ 0 ∷ 0 ∷ []

abbrev added : List ℕ
added = 3 ∷ 1 ∷ 0 ∷ 3 ∷ 1 ∷ 0 ∷ 10 ∷ 0 ∷ 1 ∷ []

abbrev cycle : List ℕ
cycle = 3 ∷ 1 ∷ 2 ∷ 3 ∷ 2 ∷ 1 ∷ 9 ∷ 0 ∷ 1 ∷ []

abbrev no_room : List ℕ
no_room = 1 ∷ 0 ∷ 0 ∷ 1 ∷ 0 ∷ 0 ∷ 8 ∷ 1 ∷ 0 ∷ 1 ∷ 0 ∷ 0 ∷ 8 ∷ 3 ∷ 0 ∷ 10 ∷ 2 ∷ 4 ∷ 8 ∷ 5 ∷ 0 ∷ 5 ∷ 0 ∷ 6 ∷ []

judging : List ℕ → List ℕ → ℕ → Row
judging b m r = judge (record { profile = Strong; book = b; model = m; number = r })

searching : List ℕ → ℕ → ℕ → ℕ → List ℕ → Row
searching b k r t m = search (record { profile = Strong; book = b; budget = k; number = r; tried = t; model = m })

-- P1, P2: x ↦ x; P3: x ↦ nil; P4: ls(x,nil); P5: x ≠ nil; P6: nil ↦ x; P7, P8; P9; P10; P11 at p = 1 and p = 2; P12; P13 at
-- n = 0 and n = 1, and its truths there; P14 both ways. Then paths: of two links, where p = 1; that of an added heap, which does
-- not count; a cell that points to itself, which is none; and a cycle of two cells, which is one of one link, where p = 1 and
-- where p = 0. Last eight variables and eight locations: the last variable's cell alone, and a queue of eight cells, where p = 8
-- and where p = 7
pub rows : List Row
rows =
    searching (book_of 1 1 1 (3 ∷ 1 ∷ 1 ∷ [])) 6 yes_number 6 (1 ∷ 1 ∷ [])
    ∷ searching (book_of 1 1 1 (3 ∷ 1 ∷ 1 ∷ [])) 5 spent_number 5 []
    ∷ searching (book_of 1 1 1 (3 ∷ 1 ∷ 0 ∷ [])) 6 yes_number 5 (1 ∷ 0 ∷ [])
    ∷ searching (book_of 1 1 1 (4 ∷ 1 ∷ 0 ∷ [])) 6 yes_number 1 (0 ∷ 255 ∷ [])
    ∷ searching (book_of 1 0 0 (2 ∷ 1 ∷ 0 ∷ [])) 6 no_number 1 []
    ∷ searching (book_of 1 1 1 (3 ∷ 0 ∷ 1 ∷ [])) 6 no_number 6 []
    ∷ judging (book_of 2 3 3 meet) (1 ∷ 2 ∷ 3 ∷ 3 ∷ 255 ∷ []) no_number
    ∷ judge (record { profile = Ordinary; book = book_of 2 3 3 meet; model = 1 ∷ 2 ∷ 3 ∷ 3 ∷ 255 ∷ []; number = yes_number })
    ∷ judging (book_of 3 3 3 meet) (1 ∷ 2 ∷ 3 ∷ 3 ∷ 3 ∷ 255 ∷ []) yes_number
    ∷ judging (book_of 2 2 2 two_cells) (1 ∷ 2 ∷ 0 ∷ 0 ∷ []) yes_number
    ∷ judging (book_of 1 1 1 replaced) (1 ∷ 1 ∷ []) yes_number
    ∷ judging (book_of 1 2 1 queue) (1 ∷ 2 ∷ 0 ∷ []) no_number
    ∷ judging (book_of 1 2 2 queue) (1 ∷ 2 ∷ 0 ∷ []) yes_number
    ∷ judging (book_of 1 1 1 (4 ∷ 1 ∷ 1 ∷ [])) (1 ∷ 1 ∷ []) no_number
    ∷ searching (book_of 0 0 0 no_room) 6 yes_number 1 []
    ∷ searching (book_of 0 1 0 no_room) 6 no_number 3 []
    ∷ judging (book_of 0 0 0 no_room) [] yes_number
    ∷ judging (book_of 0 1 0 no_room) (255 ∷ []) no_number
    ∷ judging (book_of 0 1 0 no_room) (0 ∷ []) no_number
    ∷ judging (book_of 0 1 0 no_room) (1 ∷ []) no_number
    ∷ judging (book_of 2 2 2 (3 ∷ 1 ∷ 2 ∷ [])) (1 ∷ 2 ∷ 2 ∷ 255 ∷ []) yes_number
    ∷ judging (book_of 2 2 2 (3 ∷ 2 ∷ 1 ∷ [])) (1 ∷ 2 ∷ 2 ∷ 255 ∷ []) no_number
    ∷ judging (book_of 1 2 1 no_queue) (1 ∷ 2 ∷ 0 ∷ []) no_number
    ∷ judging (book_of 1 1 0 added) (1 ∷ 255 ∷ []) yes_number
    ∷ judging (book_of 1 1 0 (3 ∷ 1 ∷ 1 ∷ [])) (1 ∷ 1 ∷ []) yes_number
    ∷ judging (book_of 2 2 1 cycle) (1 ∷ 2 ∷ 2 ∷ 1 ∷ []) yes_number
    ∷ judging (book_of 2 2 0 cycle) (1 ∷ 2 ∷ 2 ∷ 1 ∷ []) no_number
    ∷ judging (book_of 8 8 8 (3 ∷ 8 ∷ 7 ∷ [])) (1 ∷ 2 ∷ 3 ∷ 4 ∷ 5 ∷ 6 ∷ 7 ∷ 8 ∷ 255 ∷ 255 ∷ 255 ∷ 255 ∷ 255 ∷ 255 ∷ 255 ∷ 7 ∷ []) yes_number
    ∷ judging (book_of 1 8 8 queue) (1 ∷ 2 ∷ 3 ∷ 4 ∷ 5 ∷ 6 ∷ 7 ∷ 8 ∷ 0 ∷ []) yes_number
    ∷ judging (book_of 1 8 7 queue) (1 ∷ 2 ∷ 3 ∷ 4 ∷ 5 ∷ 6 ∷ 7 ∷ 8 ∷ 0 ∷ []) no_number
    ∷ []

test : ℕ → Row → Bool
test i (judge w) = judged_test w
test i (search w) = searched_test w

right : (i : ℕ) (w : Row) → test i w ≡ true → Right w
unfolding Right test
right i (judge w) e = judged_right w e
right i (search w) e = searched_right w e

all_right : every test 0 rows ≡ true
unfolding rows judging searching book_of test every judged_test searched_test worked_out written same_bytes fits_at first outcome_of digits_of bytes_to accepted laid_out bounds_ok formula_ok node_ok operand_ok table_ok all_named named_by_atom model_ok fits_book stack_in heap_in truth any all digit in_part heap_of part rest union without named empty is_value in_locs within apart_at apart points chain stepped path_from short sep_at sept_at kind_of uses tree deep form_of atom_of join_of join_from5
all_right = refl

pub examples : (k : ℕ) (w : Row) → k < length rows → Right (get_or rows k w)
examples k w l = right k (get_or rows k w) (entry_of w test rows all_right k l)
