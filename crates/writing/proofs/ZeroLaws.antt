-- No byte of a text is 0, so that who cleared the output finds the text in it up to the first 0. Assumes nothing.
use Rattle.std.specs.Prelude.{◌≡◌, refl, Bool, true, List, [], ◌∷◌, ◌++◌, ℕ, zero, suc, ◌<◌, ◌≤◌, leb, length, get_or, drop, replicate}
use Rattle.std.proofs.Common.{ap, ◌∙◌, arith, le-leb, leb-true}
use Prim.Native.Char.{code}
use Rattle.std.proofs.Math.Seq.{drop-nil}
use Rattle.logic.specs.declared.Answer.{Answer}
use Rattle.logic.specs.Numbers.{yes_number}
use Rattle.logic.proofs.Reflect.{false_true, is_and, is_self}
use Rattle.logic.proofs.Entries.{every, entry_of}
use Rattle.logic.specs.Book.{book_formula, Accepted}
use Rattle.grammar.specs.Phrase.{Word, joins, denies, relates, Term, Phrase, emp, join, deny, relate, spelling, letter}
use Rattle.grammar.specs.Phrase.Join.{and_word, or_word, sep_word, wand_word}
use Rattle.grammar.specs.Phrase.Atom.{equal_word, distinct_word, pto_word, ls_word}
use Rattle.writing.specs.Writing.{phrase_of, term_text, ending, list, pair, write, text_of, Exports, upto_zero}
use Rattle.writing.proofs.ExportLaws.{exported_accepted}
use Rattle.writing.specs.WritingLaws.{Plain, nil_plain, name_plain, EachTerm}
use Rattle.writing.proofs.TermLaws.{text_plain}

abbrev some : ℕ → ℕ → Bool
some i b = leb 1 b

abbrev NoZero : List ℕ → Type 0
NoZero x = (i : ℕ) → every some i x ≡ true

no_zero_behind : (x y : List ℕ) (i : ℕ) → every some i x ≡ true → NoZero y → every some i (x ++ y) ≡ true
unfolding every
no_zero_behind [] y i p q = q i
no_zero_behind (b ∷ x) y i p q =
    let r = (is_and (leb 1 b) (every some (suc i) x) (is_self (leb 1 b)) (is_self (every some (suc i) x))).to p in
    rw r.0 (no_zero_behind x y (suc i) r.1 q)

no_zero_both : (x y : List ℕ) → NoZero x → NoZero y → NoZero (x ++ y)
no_zero_both x y p q i = no_zero_behind x y i (p i) q

no_zero_word : (c : Word) → NoZero (spelling c)
unfolding every
no_zero_word (joins and_word) i = refl
no_zero_word (joins or_word) i = refl
no_zero_word (joins sep_word) i = refl
no_zero_word (joins wand_word) i = refl
no_zero_word denies i = refl
no_zero_word (relates equal_word) i = refl
no_zero_word (relates distinct_word) i = refl
no_zero_word (relates pto_word) i = refl
no_zero_word (relates ls_word) i = refl

no_zero_list : (c : Word) (x : List ℕ) → NoZero x → NoZero (list c x)
unfolding every
no_zero_list c x p i = no_zero_both (spelling c) (code " " ∷ (x ++ ending)) (no_zero_word c) (λ j. no_zero_both x ending p (λ k. refl) (suc j)) (suc i)

no_zero_pair : (x y : List ℕ) → NoZero x → NoZero y → NoZero (pair x y)
unfolding every
no_zero_pair x y p q = no_zero_both x (code " " ∷ y) p (λ i. q (suc i))

letter_some : (d : ℕ) → letter d ≡ true → 1 ≤ d
letter_some zero h = false_true h
letter_some (suc d) h = omega arith

no_zero_term : (x : Term) → Plain x → NoZero (term_text x)
unfolding every
no_zero_term x nil_plain i = refl
no_zero_term x (name_plain {d = d} h) i = rw (le-leb 1 d (letter_some d h))

no_zero_write : (F : Phrase) → EachTerm Plain F → NoZero (write F)
unfolding EachTerm write every
no_zero_write emp p = λ i. refl
no_zero_write (join c F G) p = no_zero_list (joins c) (pair (write F) (write G)) (no_zero_pair (write F) (write G) (no_zero_write F p.0) (no_zero_write G p.1))
no_zero_write (deny F) p = no_zero_list denies (write F) (no_zero_write F p)
no_zero_write (relate c x y) p =
    no_zero_list (relates c) (pair (term_text x) (term_text y)) (no_zero_pair (term_text x) (term_text y) (no_zero_term x p.0) (no_zero_term y p.1))

no_zero_text : (s : List ℕ) → Accepted s → NoZero (text_of s)
unfolding text_of
no_zero_text s k = no_zero_write (phrase_of (book_formula s)) (text_plain s k)

pub text_no_zero : (s : List ℕ) → Accepted s → (k : ℕ) → k < length (text_of s) → 1 ≤ get_or (text_of s) k 0
text_no_zero s a k l = leb-true 1 (get_or (text_of s) k 0) (entry_of 0 some (text_of s) (no_zero_text s a 0) k l)

upto_none : (j k : ℕ) → upto_zero (drop j (replicate k 0)) ≡ []
unfolding upto_zero
upto_none j zero = ap upto_zero (drop-nil j)
upto_none zero (suc k) = refl
upto_none (suc j) (suc k) = upto_none j k

upto_text : (x : List ℕ) (i j k : ℕ) → every some i x ≡ true → upto_zero (x ++ drop j (replicate k 0)) ≡ x
unfolding upto_zero every
upto_text [] i j k p = upto_none j k
upto_text (zero ∷ x) i j k p = false_true p
upto_text (suc b ∷ x) i j k p =
    let r = (is_and (leb 1 (suc b)) (every some (suc i) x) (is_self (leb 1 (suc b))) (is_self (every some (suc i) x))).to p in
    ap (λ (z : List ℕ). suc b ∷ z) (upto_text x (suc i) j k r.1)

-- what a caller finds in an output of k bytes that was cleared
pub exported_text : (s : List ℕ) (k : ℕ) (a : Answer) (o' : List ℕ) → Exports s (replicate k 0) a o' → a.number ≡ yes_number → upto_zero o' ≡ text_of s
exported_text s k a o' x z = ap upto_zero (x.wrote z) ∙ upto_text (text_of s) 0 (length (text_of s)) k (no_zero_text s (exported_accepted s (replicate k 0) a o' x z) 0)
