-- The text of an accepted book has at most 1,906 bytes, and there is a book whose text has as many. Assumes nothing.
use Rattle.std.specs.Prelude.{◌≡◌, List, ℕ, zero, suc, ◌≤◌, length}
use Rattle.std.proofs.Math.Path.{refl}
use Rattle.std.proofs.Common.{ap, ◌∙◌, zero-le, arith}
use Rattle.logic.specs.Table.{op_of, operand_of}
use Rattle.logic.specs.Weight.{own_at}
use Rattle.logic.proofs.Weight.{adds_up}
use Rattle.logic.proofs.Children.{nodes_counted, children_counted, at_most}
use Rattle.logic.specs.Book.{most_nodes, vars_of, formula_of, nodes, root, Accepted}
use Rattle.logic.proofs.BookLaws.{accepted_whole}
use Rattle.grammar.specs.Listing.{size_of}
use Rattle.grammar.specs.ListingLaws.{Within}
use Rattle.grammar.proofs.BookOfLaws.{book_accepted, formula_of_book}
use Rattle.writing.specs.Writing.{phrase_of, write, text_of}
use Rattle.ownwords.specs.OwnWords.{text, own_byte_count}
use Rattle.ownwords.specs.OwnWordLaws.{bytes_add, own_most}
use Rattle.writer.specs.Longest.{most_text, septractions, longest_formula, longest_book}

-- 32 atoms of 40 bytes, 31 septractions of 20 and a negation of 6 are the most: there is one atom more than there are nodes with
-- two children
pub longest_text : (s : List ℕ) → Accepted s → length (text_of s) ≤ most_text
unfolding text_of
longest_text s a =
    let w = accepted_whole s a in
    let f = formula_of s in
    let e : nodes f ≡ suc (root f) = omega (arith, w.some) in
    let all = adds_up (vars_of s) f (nodes f) w.sound w.tree (root f) e (λ F. length (text F)) own_byte_count bytes_add in
    let less = at_most (vars_of s) f (nodes f) w.sound w.tree (root f) e (own_at own_byte_count f) 40 6 20
    (λ k l. own_most (op_of f k) (operand_of f k 0) (operand_of f k 1) (w.sound k l).operator.0 (w.sound k l).operator.1) in
    let n = nodes_counted (vars_of s) f (nodes f) w.sound w.tree (root f) e in
    let c = children_counted (vars_of s) f (nodes f) w.sound w.tree (root f) e in
    omega (arith, all, less, n, c, w.few)

-- ---- the book that has it

few : size_of longest_formula ≤ most_nodes
unfolding size_of septractions
few = omega arith

within : (k : ℕ) → Within 0 (septractions k)
unfolding Within septractions
within zero = (zero-le, zero-le)
within (suc k) = (within k, (zero-le, zero-le))

pub longest_accepted : Accepted longest_book
unfolding Within
longest_accepted = book_accepted 0 0 0 longest_formula few zero-le zero-le zero-le (within 31)

pub longest_attained : length (text_of longest_book) ≡ most_text
unfolding text_of
longest_attained = ap (λ F. length (text F)) (formula_of_book 0 0 0 longest_formula few) ∙ computed
  where
    computed : length (text longest_formula) ≡ most_text
    computed = unfold septractions phrase_of write in refl
