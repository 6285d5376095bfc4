-- The terms of a written formula are its variables, and `v1` to `v6` are names. Assumes nothing.
use Rattle.std.specs.Prelude.{◌≡◌, true, List, ℕ, zero, suc, ◌≤◌}
use Prim.Native.Char.{code}
use Rattle.std.proofs.Common.{arith, le-leb}
use Rattle.std.proofs.lemmas.Bool.{lt-leb}
use Rattle.logic.specs.Formula.{Form}
use Rattle.logic.specs.Formula.Form.{same, diff, pts, ls, conj, disj, but, neg, sep, sept}
use Rattle.logic.specs.Book.{most, vars_of, book_formula, Accepted}
use Rattle.logic.proofs.BookLaws.{accepted_whole}
use Rattle.grammar.specs.Phrase.{Term, Phrase, emp, join, deny, relate, letter}
use Rattle.grammar.specs.ListingLaws.{Within}
use Rattle.writing.specs.Writing.{figure_of, phrase_of}
use Rattle.writing.proofs.TreeLaws.{formula_within}
use Rattle.writing.specs.WritingLaws.{Plain, nil_plain, name_plain, EachTerm}
use Rattle.writing.specs.TermLaws.{Variable, is_variable}

pub form_terms : (v : ℕ) (F : Form) → Within v F → EachTerm (Variable v) (phrase_of F)
unfolding Within phrase_of EachTerm
form_terms v (same x y) w = ((is_variable x w.0, is_variable y w.1), tt)
form_terms v (diff x y) w = ((is_variable x w.0, is_variable y w.1), tt)
form_terms v (pts x y) w = (is_variable x w.0, is_variable y w.1)
form_terms v (ls x y) w = (is_variable x w.0, is_variable y w.1)
form_terms v (conj a b) w = (form_terms v a w.0, form_terms v b w.1)
form_terms v (disj a b) w = (form_terms v a w.0, form_terms v b w.1)
form_terms v (but a b) w = (form_terms v a w.0, form_terms v b w.1)
form_terms v (neg a) w = form_terms v a w
form_terms v (sep a b) w = (form_terms v a w.0, form_terms v b w.1)
form_terms v (sept a b) w = (form_terms v a w.0, form_terms v b w.1)

-- the figures 1 to 8 may stand in a name
figure_letter : (i : ℕ) → suc i ≤ most → letter (figure_of i) ≡ true
figure_letter i l = rw (lt-leb (code "a") (figure_of i) (omega arith), le-leb (code "0") (figure_of i) (omega arith), le-leb (figure_of i) (code "9") (omega arith))

variable_plain : (v : ℕ) (t : Term) → v ≤ most → Variable v t → Plain t
variable_plain v t h (is_variable zero l) = nil_plain
variable_plain v t h (is_variable (suc x) l) = name_plain (figure_letter x (omega arith))

each_plain : (v : ℕ) (P : Phrase) → v ≤ most → EachTerm (Variable v) P → EachTerm Plain P
unfolding EachTerm
each_plain v emp h q = tt
each_plain v (join c F G) h q = (each_plain v F h q.0, each_plain v G h q.1)
each_plain v (deny F) h q = each_plain v F h q
each_plain v (relate c x y) h q = (variable_plain v x h q.0, variable_plain v y h q.1)

-- so a book's text has no other terms than nil and such names
pub text_plain : (s : List ℕ) → Accepted s → EachTerm Plain (phrase_of (book_formula s))
text_plain s k = each_plain (vars_of s) (phrase_of (book_formula s)) (accepted_whole s k).bounds.vars (form_terms (vars_of s) (book_formula s) (formula_within s k))
