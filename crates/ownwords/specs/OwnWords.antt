-- What an operator writes of itself: before its first operand, between its two and behind its last, and how many bytes a node
-- has of its own. Assumes nothing: these are definitions.
use Rattle.std.specs.Prelude.{List, [], ◌∷◌, ◌++◌, ℕ, ◌+◌, leb, length, get_or}
use Rattle.logic.specs.Tests.{pick}
use Rattle.logic.specs.Formula.{Form}
use Rattle.grammar.specs.Phrase.{bytes}
use Rattle.writing.specs.Writing.{variable, phrase_of, term_text, write}

-- a formula's text
abbrev pub text : Form → List ℕ
text F = write (phrase_of F)

-- in the order of the operators, from 0, which is none
unfoldable pub before : ℕ → List ℕ
before o = get_or ([] ∷ bytes "(and (= " ∷ bytes "(and (distinct " ∷ bytes "(pto " ∷ bytes "(ls " ∷ bytes "(and " ∷ bytes "(or " ∷ bytes "(and " ∷ bytes "(not " ∷ bytes "(sep " ∷ bytes "(not (wand " ∷ []) o []

-- operator 8 has one operand
unfoldable pub between : ℕ → List ℕ
between o = get_or ([] ∷ bytes " " ∷ bytes " " ∷ bytes " " ∷ bytes " " ∷ bytes " " ∷ bytes " " ∷ bytes " (not " ∷ [] ∷ bytes " " ∷ bytes " (not " ∷ []) o []

unfoldable pub behind : ℕ → List ℕ
behind o = get_or ([] ∷ bytes ") sep.emp)" ∷ bytes ") sep.emp)" ∷ bytes ")" ∷ bytes ")" ∷ bytes ")" ∷ bytes ")" ∷ bytes "))" ∷ bytes ")" ∷ bytes ")" ∷ bytes ")))" ∷ []) o []

-- operator o over two operands that are written, and over one
abbrev pub around : ℕ → List ℕ → List ℕ → List ℕ
around o x y = before o ++ x ++ between o ++ y ++ behind o

abbrev pub around_one : ℕ → List ℕ → List ℕ
around_one o x = before o ++ x ++ behind o

-- a variable, as an operand
abbrev pub term : ℕ → List ℕ
term x = term_text (variable x)

-- how many bytes that is, the operands left out
unfoldable pub word_bytes : ℕ → ℕ
word_bytes o = length (before o) + length (between o) + length (behind o)

-- how many bytes a node has, those of its children left out
unfoldable pub own_byte_count : ℕ → ℕ → ℕ → ℕ
own_byte_count o x y = word_bytes o + pick (leb o 4) (length (term x) + length (term y)) 0
