-- The text of a book, and what the export of a book answers and writes. Assumes nothing: these are definitions.
use Rattle.std.specs.Prelude.{◌≡◌, List, [], ◌∷◌, ◌++◌, ℕ, zero, suc, ◌+◌, max, ◌≤◌, length, drop}
use Prim.Native.Char.{code}
use Rattle.logic.specs.declared.Answer.{Answer}
use Rattle.logic.specs.Numbers.{answer, yes_number, output_length}
use Rattle.logic.specs.Checks.{Checks, done, check, ◌then◌, Answers}
use Rattle.logic.specs.Formula.{Form}
use Rattle.logic.specs.Formula.Form.{same, diff, pts, ls, conj, disj, but, neg, sep, sept}
use Rattle.logic.specs.Book.{most, book_checks_within, book_formula}
use Rattle.grammar.specs.Phrase.{Word, joins, denies, relates, Term, nil_term, name_term, Phrase, emp, join, deny, relate, spelling, sep_emp, sep_nil}
use Rattle.grammar.specs.Phrase.Join.{and_word, or_word, sep_word, wand_word}
use Rattle.grammar.specs.Phrase.Atom.{equal_word, distinct_word, pto_word, ls_word}

-- "`v1` to `v8` are written": the figure and the name of variable i + 1
abbrev pub figure_of : ℕ → ℕ
figure_of i = code "1" + i

abbrev pub name_of : ℕ → List ℕ
name_of i = code "v" ∷ figure_of i ∷ []

-- nil, which is variable 0, is `sep.nil`
abbrev pub variable : ℕ → Term
variable zero = nil_term
variable (suc i) = name_term (name_of i)

-- "An atom X of operator 1 or 2 becomes `(and X sep.emp)`, operator 7 `(and A (not B))`, a septraction `(not (wand A (not B)))`."
unfoldable pub phrase_of : Form → Phrase
phrase_of (same x y) = join and_word (relate equal_word (variable x) (variable y)) emp
phrase_of (diff x y) = join and_word (relate distinct_word (variable x) (variable y)) emp
phrase_of (pts x y) = relate pto_word (variable x) (variable y)
phrase_of (ls x y) = relate ls_word (variable x) (variable y)
phrase_of (conj a b) = join and_word (phrase_of a) (phrase_of b)
phrase_of (disj a b) = join or_word (phrase_of a) (phrase_of b)
phrase_of (but a b) = join and_word (phrase_of a) (deny (phrase_of b))
phrase_of (neg a) = deny (phrase_of a)
phrase_of (sep a b) = join sep_word (phrase_of a) (phrase_of b)
phrase_of (sept a b) = deny (join wand_word (phrase_of a) (deny (phrase_of b)))

-- a name by its letters, or `sep.nil`
abbrev pub term_text : Term → List ℕ
term_text nil_term = sep_nil
term_text (name_term x) = x

-- "one space after each word and each operand but the last, no other": a list with the word c and the operands x, and its end
abbrev pub ending : List ℕ
ending = code ")" ∷ []

abbrev pub list : Word → List ℕ → List ℕ
list c x = code "(" ∷ (spelling c ++ (code " " ∷ (x ++ ending)))

-- two operands
abbrev pub pair : List ℕ → List ℕ → List ℕ
pair x y = x ++ (code " " ∷ y)

unfoldable pub write : Phrase → List ℕ
write emp = sep_emp
write (join c F G) = list (joins c) (pair (write F) (write G))
write (deny F) = list denies (write F)
write (relate c x y) = list (relates c) (pair (term_text x) (term_text y))

-- how many lists stand inside each other, "the outermost being 1"
unfoldable pub depth_of : Phrase → ℕ
depth_of emp = 0
depth_of (join c F G) = suc (max (depth_of F) (depth_of G))
depth_of (deny F) = suc (depth_of F)
depth_of (relate c x y) = 1

-- "a crew's book as text"
unfoldable pub text_of : List ℕ → List ℕ
text_of s = write (phrase_of (book_formula s))

-- "Refusals: 20 after 16."
abbrev pub export_rest : List ℕ → List ℕ → Checks
export_rest s o = check (length (text_of s) ≤ length o) output_length 0 done

abbrev pub export_checks_within : ℕ → List ℕ → List ℕ → Checks
export_checks_within k s o = book_checks_within k s then export_rest s o

abbrev pub export_checks : List ℕ → List ℕ → Checks
export_checks s o = export_checks_within most s o

-- what the export of the book s gives back, and the output that it leaves: "Output bytes change only with number 0, only at the
-- front, and only as many as are written."
pub record ExportsWithin (k : ℕ) (s o : List ℕ) (a : Answer) (o' : List ℕ) : Type 0 where
  pub answer : Answers (export_checks_within k s o) (λ r. r ≡ answer yes_number 0) a
  pub wrote : a.number ≡ yes_number → o' ≡ text_of s ++ drop (length (text_of s)) o
  pub kept : ¬ (a.number ≡ yes_number) → o' ≡ o

abbrev pub Exports : List ℕ → List ℕ → Answer → List ℕ → Type 0
Exports s o a o' = ExportsWithin most s o a o'

-- An answer has no length: who cleared the output finds the text in it up to the first 0
unfoldable pub upto_zero : List ℕ → List ℕ
upto_zero [] = []
upto_zero (zero ∷ x) = []
upto_zero (suc b ∷ x) = suc b ∷ upto_zero x
