-- Which formula a text means, without a parser. The text is w; `from i up to j` leaves j out. Assumes nothing: these are
-- definitions.
use Rattle.std.specs.Prelude.{◌≡◌, Bool, true, List, [], ◌∷◌, ◌++◌, ℕ, suc, ◌-◌, ◌<◌, eqb, length, get_or}
use Prim.Native.Char.{code}
use Rattle.logic.specs.Tests.{orb}
use Rattle.grammar.specs.Phrase.{Join, Atom, Word, joins, denies, relates, Term, nil_term, name_term, Phrase, emp, join, deny, relate, spelling, sep_emp, sep_nil, Name}
use Rattle.grammar.specs.Phrase.Join.{and_word, or_word, sep_word, wand_word}
use Rattle.grammar.specs.Phrase.Atom.{equal_word, distinct_word, pto_word, ls_word}

-- What is finished on the way through a text, in the order of its bytes: a name, with its first byte and "the byte after it"; an
-- item, with its last byte and the nodes that it adds
pub data Event : Type 0 where
  named : List ℕ → ℕ → ℕ → Event
  finished : ℕ → ℕ → Event

-- how many nodes a list adds to those of its formulas: "each becomes operator 9 over the book's atom and the negation of
-- nil ≠ nil, four nodes"; "A wand from a to b is the negation of a septraction of a with not b"
abbrev pub adds : Word → ℕ
adds (joins and_word) = 1
adds (joins or_word) = 1
adds (joins sep_word) = 1
adds (joins wand_word) = 3
adds denies = 1
adds (relates equal_word) = 4
adds (relates distinct_word) = 4
adds (relates pto_word) = 1
adds (relates ls_word) = 1

-- "to depth 16, the outermost being 1"
abbrev pub deepest : ℕ
deepest = 16

-- "spaces and line feeds"
abbrev pub blank : ℕ → Bool
blank b = orb (eqb b (code " ")) (eqb b (code "\n"))

-- what a term leaves behind
abbrev pub seen : Term → ℕ → ℕ → List Event
seen nil_term i j = []
seen (name_term x) i j = named x i j ∷ []

module _ (w : List ℕ) where
  -- byte b stands at i
  abbrev pub Byte : ℕ → ℕ → Type 0
  Byte b i = (i < length w) × (get_or w i 0 ≡ b)

  -- the bytes x stand from i up to j
  pub data Spelt : List ℕ → ℕ → ℕ → Type 0 where
    no_more : {i : ℕ} → Spelt [] i i
    one_more : {b i j : ℕ} {x : List ℕ} → Byte b i → Spelt x (suc i) j → Spelt (b ∷ x) i j

  -- spaces and line feeds from i up to j
  pub data Blanks : ℕ → ℕ → Type 0 where
    no_blank : {i : ℕ} → Blanks i i
    a_blank : {b i j : ℕ} → blank b ≡ true → Byte b i → Blanks (suc i) j → Blanks i j

  -- "at least one where neither neighbour is a bracket": what ends before i and is no bracket has the text's end, a blank or a
  -- bracket behind it
  pub data Edge : ℕ → Type 0 where
    at_end : Edge (length w)
    at_blank : {b i : ℕ} → blank b ≡ true → Byte b i → Edge i
    at_open : {i : ℕ} → Byte (code "(") i → Edge i
    at_close : {i : ℕ} → Byte (code ")") i → Edge i

  -- a name or `sep.nil`
  pub data Stands : Term → ℕ → ℕ → Type 0 where
    a_nil : {i j : ℕ} → Spelt sep_nil i j → Stands nil_term i j
    a_name : {i j : ℕ} {x : List ℕ} → Name x → Spelt x i j → Stands (name_term x) i j

  -- "A list is in round brackets, its word first; spaces and line feeds may stand before, between and after all of these": a
  -- list inside d others, from i up to j, with the word c, and its items from k up to l
  pub record Listed (d : ℕ) (c : Word) (i k l j : ℕ) : Type 0 where
    pub depth : d < deepest
    pub opens : Byte (code "(") i
    pub begins : ℕ
    pub ends : ℕ
    pub before : Blanks (suc i) begins
    pub word : Spelt (spelling c) begins ends
    pub edge : Edge ends
    pub between : Blanks ends k
    pub shuts : ℕ
    pub after : Blanks l shuts
    pub closes : Byte (code ")") shuts
    pub last : suc shuts ≡ j

  -- a formula inside d lists, from i up to j, and what is finished on the way
  pub data Reads : ℕ → Phrase → ℕ → ℕ → List Event → Type 0 where
    an_emp : {d i j : ℕ} → Spelt sep_emp i j → Edge j → Reads d emp i j (finished (j - 1) 1 ∷ [])
    a_join : {d i k l j m n : ℕ} {c : Join} {F G : Phrase} {es fs : List Event} → Listed d (joins c) i k l j
        → Reads (suc d) F k m es → Blanks m n → Reads (suc d) G n l fs
        → Reads d (join c F G) i j (es ++ (fs ++ (finished (j - 1) (adds (joins c)) ∷ [])))
    a_denial : {d i k l j : ℕ} {F : Phrase} {es : List Event} → Listed d denies i k l j
        → Reads (suc d) F k l es
        → Reads d (deny F) i j (es ++ (finished (j - 1) (adds denies) ∷ []))
    a_relation : {d i k l j m n : ℕ} {c : Atom} {x y : Term} → Listed d (relates c) i k l j
        → Stands x k m → m < n → Blanks m n → Stands y n l
        → Reads d (relate c x y) i j (seen x k m ++ (seen y n l ++ (finished (j - 1) (adds (relates c)) ∷ [])))

  -- "one assertion body, a formula": the text means F
  pub record Means (F : Phrase) (es : List Event) : Type 0 where
    pub from : ℕ
    pub upto : ℕ
    pub before : Blanks 0 from
    pub body : Reads 0 F from upto es
    pub after : Blanks upto (length w)
