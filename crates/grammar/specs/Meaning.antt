-- The formula that a text's phrase is, over the operators of a book. Assumes nothing: these are definitions.
use Rattle.std.specs.Prelude.{List, [], ◌∷◌, ℕ, suc, length}
use Rattle.logic.specs.Tests.{same_bytes}
use Rattle.logic.specs.Formula.{Form}
use Rattle.logic.specs.Formula.Form.{same, diff, pts, ls, conj, disj, neg, sep, sept}
use Rattle.grammar.specs.Phrase.{choose, Join, Atom, Term, nil_term, name_term, Phrase, emp, join, deny, relate}
use Rattle.grammar.specs.Phrase.Join.{and_word, or_word, sep_word, wand_word}
use Rattle.grammar.specs.Phrase.Atom.{equal_word, distinct_word, pto_word, ls_word}
use Rattle.grammar.specs.Places.{note}
use Rattle.grammar.specs.Listing.{book_of}

-- "names are numbered as they first appear": the names so far, with those of a term and of a phrase
abbrev pub note_term : List (List ℕ) → Term → List (List ℕ)
note_term ns nil_term = ns
note_term ns (name_term x) = note ns x

unfoldable pub collect : List (List ℕ) → Phrase → List (List ℕ)
collect ns emp = ns
collect ns (join c F G) = collect (collect ns F) G
collect ns (deny F) = collect ns F
collect ns (relate c x y) = note_term (note_term ns x) y

abbrev pub names_of : Phrase → List (List ℕ)
names_of F = collect [] F

unfoldable pub position : List (List ℕ) → List ℕ → ℕ
position [] x = 0
position (y ∷ ns) x = let r = suc (position ns x) in choose (same_bytes y x) 0 r

-- a name's number, and nil's
abbrev pub number_of : List (List ℕ) → Term → ℕ
number_of ns nil_term = 0
number_of ns (name_term x) = suc (position ns x)

-- the negation of nil ≠ nil, which holds on any heap
abbrev pub anything : Form
anything = neg (diff 0 0)

-- "A wand from a to b is the negation of a septraction of a with not b."
abbrev pub join_form : Join → Form → Form → Form
join_form and_word a b = conj a b
join_form or_word a b = disj a b
join_form sep_word a b = sep a b
join_form wand_word a b = neg (sept a (neg b))

-- "In this text `=` and `distinct` hold on any heap, so each becomes operator 9 over the book's atom and the negation of nil ≠ nil"
abbrev pub atom_form : Atom → ℕ → ℕ → Form
atom_form equal_word x y = sep (same x y) anything
atom_form distinct_word x y = sep (diff x y) anything
atom_form pto_word x y = pts x y
atom_form ls_word x y = ls x y

-- "`sep.emp` becomes nil = nil"; ν numbers the names
unfoldable pub form_of : (Term → ℕ) → Phrase → Form
form_of ν emp = same 0 0
form_of ν (join c F G) = join_form c (form_of ν F) (form_of ν G)
form_of ν (deny F) = neg (form_of ν F)
form_of ν (relate c x y) = atom_form c (ν x) (ν y)

-- which formula a phrase means
abbrev pub meaning : Phrase → Form
meaning F = form_of (number_of (names_of F)) F

-- "The caller gives n and p; v is the number of names."
abbrev pub book_for : ℕ → ℕ → Phrase → List ℕ
book_for n p F = book_of (length (names_of F)) n p (meaning F)
