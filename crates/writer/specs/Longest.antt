-- How long a text is at the most, and a book whose text is that long. Assumes nothing: these are definitions.
use Rattle.std.specs.Prelude.{List, ℕ, zero, suc}
use Rattle.logic.specs.Formula.{Form}
use Rattle.logic.specs.Formula.Form.{diff, neg, sept}
use Rattle.grammar.specs.Listing.{book_of}

-- no text of an accepted book has more bytes
abbrev pub most_text : ℕ
most_text = 1906

-- k septractions, one in the other, with nil ≠ nil wherever an atom stands: the longest connective over the longest atom
unfoldable pub septractions : ℕ → Form
septractions zero = diff 0 0
septractions (suc k) = sept (septractions k) (diff 0 0)

-- 31 of them have 63 nodes, and a negation is the 64th
abbrev pub longest_formula : Form
longest_formula = neg (septractions 31)

abbrev pub longest_book : List ℕ
longest_book = book_of 0 0 0 longest_formula
