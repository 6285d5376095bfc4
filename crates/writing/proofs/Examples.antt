-- Books and their texts, in one go over a table; and a book that its text does not give back. Assumes nothing.
use Rattle.std.specs.Prelude.{◌≡◌, refl, Bool, true, List, [], ◌∷◌, ◌++◌, ℕ, ◌<◌, length, get_or, drop}
use Rattle.std.proofs.Common.{ap, ◌∙◌, arith}
use Rattle.logic.specs.declared.Profile.TheVariants.{Strong}
use Rattle.logic.specs.Numbers.{answer, yes_number, no_number, output_length}
use Rattle.logic.specs.Tests.{andb, same_bytes, any, all, digit, in_part, heap_of, part, rest, union, without, named, empty, is_value, in_locs, within, apart_at, apart, points, chain, stepped, path_from, short, sep_at, sept_at}
use Rattle.logic.specs.Truth.{truth}
use Rattle.logic.proofs.Reflect.{is_and, is_same_bytes}
use Rattle.logic.specs.Table.{kind_of, uses, tree, deep, form_of as node_form, atom_of, join_of, join_from5}
use Rattle.logic.specs.Book.{head_of, vars_of}
use Rattle.logic.specs.Model.{stack_in, heap_in}
use Rattle.logic.specs.Computed.{laid_out, bounds_ok, formula_ok, operand_ok, node_ok, table_ok, accepted, model_ok, fits_book}
use Rattle.logic.proofs.ComputedLaws.{is_accepted}
use Rattle.logic.proofs.Entries.{every, entry_of}
use Rattle.logic.specs.JudgeExamples.{JudgedRight, judged_test}
use Rattle.logic.proofs.JudgeExamples.{judged_right}
use Rattle.grammar.specs.Phrase.{bytes}
use Rattle.grammar.specs.Places.{known}
use Rattle.grammar.specs.Listing.{size_of, listing, book_of}
use Rattle.grammar.specs.Meaning.{collect, position, form_of}
use Rattle.writing.specs.Writing.{phrase_of, write, text_of}
use Rattle.writing.proofs.ExportLaws.{exports_single, exports_written, exports_short}
use Rattle.writing.specs.Matching.{book_again, renumbered}
use Rattle.writing.specs.Examples.{Example, Right}

writing : ℕ → ℕ → ℕ → List ℕ → List ℕ → Example
writing v n p f t = record { book = head_of 2 v n p (length f) ++ f; text = t }

-- N * N, N being ¬(nil = nil)
abbrev meet : List ℕ
meet = 1 ∷ 0 ∷ 0 ∷ 8 ∷ 0 ∷ 0 ∷ 1 ∷ 0 ∷ 0 ∷ 8 ∷ 2 ∷ 0 ∷ 9 ∷ 1 ∷ 3 ∷ []

pub rows : List Example
rows =
    -- P1's x ↦ x, P4's ls(x,nil), P5's x ≠ nil
    writing 1 1 1 (3 ∷ 1 ∷ 1 ∷ []) (bytes "(pto v1 v1)")
    ∷ writing 1 1 1 (4 ∷ 1 ∷ 0 ∷ []) (bytes "(ls v1 sep.nil)")
    ∷ writing 1 0 0 (2 ∷ 1 ∷ 0 ∷ []) (bytes "(and (distinct v1 sep.nil) sep.emp)")
    -- P8's N * N: nil = nil is an equation like any other
    ∷ writing 3 3 3 meet (bytes "(sep (not (and (= sep.nil sep.nil) sep.emp)) (not (and (= sep.nil sep.nil) sep.emp)))")
    -- P10's x ↦ x * (x ↦ nil −⊛ x ↦ nil)
    ∷ writing 1 1 1 (3 ∷ 1 ∷ 1 ∷ 3 ∷ 1 ∷ 0 ∷ 3 ∷ 1 ∷ 0 ∷ 10 ∷ 1 ∷ 2 ∷ 9 ∷ 0 ∷ 3 ∷ []) (bytes "(sep (pto v1 v1) (not (wand (pto v1 sep.nil) (not (pto v1 sep.nil)))))")
    -- (v7 = v8 ∨ v1 ↦ v2) ∧ (v3 ↦ v4 and not ls(v8,v7))
    ∷ writing 8 8 8 (1 ∷ 7 ∷ 8 ∷ 3 ∷ 1 ∷ 2 ∷ 6 ∷ 0 ∷ 1 ∷ 3 ∷ 3 ∷ 4 ∷ 4 ∷ 8 ∷ 7 ∷ 7 ∷ 3 ∷ 4 ∷ 5 ∷ 2 ∷ 5 ∷ []) (bytes "(and (or (and (= v7 v8) sep.emp) (pto v1 v2)) (and (pto v3 v4) (not (ls v8 v7))))")
    ∷ []

test : ℕ → Example → Bool
test i w = andb (accepted w.book) (same_bytes (text_of w.book) w.text)

right : (i : ℕ) (w : Example) → test i w ≡ true → Right w
unfolding test
right i w e o a o' x =
    let s = w.book in
    let t = (is_and (accepted s) (same_bytes (text_of s) w.text) (is_accepted s) (is_same_bytes (text_of s) w.text)).to e in
    let long = ap length t.1 in (
      λ l. let z = exports_single s o a (answer yes_number 0) o' _ x (exports_written s o t.0 (omega (arith, long, l))) in
          (z.0, z.1 ∙ ap (λ (y : List ℕ). y ++ drop (length y) o) t.1),
      λ l. exports_single s o a (answer output_length 0) o' o x (exports_short s o t.0 (omega (arith, long, l))),
    )

all_right : every test 0 rows ≡ true
unfolding rows writing test every same_bytes accepted laid_out bounds_ok formula_ok node_ok operand_ok table_ok any all kind_of uses text_of write phrase_of tree deep node_form atom_of join_of join_from5
all_right = refl

pub examples : (k : ℕ) (w : Example) → k < length rows → Right (get_or rows k w)
examples k w l = right k (get_or rows k w) (entry_of w test rows all_right k l)

-- ---- variables are matched by name

-- v2 ↦ v1: the text has v2 first, so that it is variable 1 when the text is read, and v1 variable 2
abbrev turned : List ℕ
turned = head_of 2 2 2 2 3 ++ (3 ∷ 2 ∷ 1 ∷ [])

pub turned_again : (renumbered turned 1 ≡ 2) × (renumbered turned 2 ≡ 1) × (book_again turned ≡ head_of 2 2 2 2 3 ++ (3 ∷ 1 ∷ 2 ∷ []))
unfolding book_of size_of listing known collect position same_bytes form_of phrase_of tree deep node_form atom_of join_of join_from5
turned_again = (refl, refl, refl)

-- ---- why every declared variable has to be named by an atom

-- P8's book declares three variables that no atom names
abbrev p8 : List ℕ
p8 = head_of 2 3 3 3 15 ++ meet

-- its text has no name, and is read as a book without variables
pub p8_again : (vars_of p8 ≡ 3) × (vars_of (book_again p8) ≡ 0)
unfolding book_of size_of listing collect position form_of phrase_of tree deep node_form atom_of join_of join_from5
p8_again = (refl, refl)

-- so the two parts 1 → 3 and 2 → 3, which meet where the third variable is, meet nowhere that is named
pub p8_fits : JudgedRight (record { profile = Strong; book = p8; model = 1 ∷ 2 ∷ 3 ∷ 3 ∷ 3 ∷ 255 ∷ []; number = yes_number })
unfolding judged_test accepted laid_out bounds_ok formula_ok node_ok operand_ok table_ok model_ok fits_book short path_from stepped stack_in heap_in truth any all digit in_part heap_of part rest union without named empty is_value in_locs within apart_at apart points chain sep_at sept_at kind_of uses tree deep node_form atom_of join_of join_from5
p8_fits = judged_right _ refl

pub p8_again_fits_not : JudgedRight (record { profile = Strong; book = book_again p8; model = 3 ∷ 3 ∷ 255 ∷ []; number = no_number })
unfolding book_of size_of listing collect position form_of phrase_of judged_test accepted laid_out bounds_ok formula_ok node_ok operand_ok table_ok model_ok fits_book short path_from stepped stack_in heap_in truth any all digit in_part heap_of part rest union without named empty is_value in_locs within apart_at apart points chain sep_at sept_at kind_of uses tree deep node_form atom_of join_of join_from5
p8_again_fits_not = judged_right _ refl
