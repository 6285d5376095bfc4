-- What a text says, before it is a book: its words, its names and its formulas. Assumes nothing: these are definitions.
use Rattle.std.specs.Prelude.{◌≡◌, Bool, true, false, List, [], ◌∷◌, ℕ, ◌≤◌, ◌<◌, leb, length, get_or}
use Prim.Native.Char.{code}
use Prim.Native.String.{String, [] as no_more, ◌∷◌ as ◌before◌}
use Rattle.logic.specs.Tests.{andb, orb}

-- the bytes of a quoted text
abbrev pub bytes : String → List ℕ
bytes no_more = []
bytes (c before s) = code c ∷ bytes s

-- one of two things, by a test
abbrev pub choose : {A : Type 0} → Bool → A → A → A
choose true a b = a
choose false a b = b

-- "`and`, `or`, `sep`, `wand` over two formulas"
pub data Join : Type 0 where
  and_word or_word sep_word wand_word : Join

-- "`=`, `distinct`, `pto`, `ls` over two names or `sep.nil`"
pub data Atom : Type 0 where
  equal_word distinct_word pto_word ls_word : Atom

-- the words that begin a list; "`not` over one"
pub data Word : Type 0 where
  joins : Join → Word
  denies : Word
  relates : Atom → Word

-- a name, by its letters, or `sep.nil`
pub data Term : Type 0 where
  nil_term : Term
  name_term : List ℕ → Term

-- "a formula is such a list or `sep.emp`"
pub data Phrase : Type 0 where
  emp : Phrase
  join : Join → Phrase → Phrase → Phrase
  deny : Phrase → Phrase
  relate : Atom → Term → Term → Phrase

abbrev pub spelling : Word → List ℕ
spelling (joins and_word) = bytes "and"
spelling (joins or_word) = bytes "or"
spelling (joins sep_word) = bytes "sep"
spelling (joins wand_word) = bytes "wand"
spelling denies = bytes "not"
spelling (relates equal_word) = bytes "="
spelling (relates distinct_word) = bytes "distinct"
spelling (relates pto_word) = bytes "pto"
spelling (relates ls_word) = bytes "ls"

abbrev pub sep_emp : List ℕ
sep_emp = bytes "sep.emp"

abbrev pub sep_nil : List ℕ
sep_nil = bytes "sep.nil"

-- "lower-case"; "lower-case letters or digits"
abbrev pub lower : ℕ → Bool
lower b = andb (leb (code "a") b) (leb b (code "z"))

abbrev pub letter : ℕ → Bool
letter b = orb (lower b) (andb (leb (code "0") b) (leb b (code "9")))

-- "a lower-case letter and up to seven more"
abbrev pub longest : ℕ
longest = 8

-- "A name is a lower-case letter and up to seven more lower-case letters or digits, and none of those words" (no letter is '=' or
-- '.', so `=`, `sep.emp` and `sep.nil` are none anyway)
pub record Name (x : List ℕ) : Type 0 where
  pub some : 1 ≤ length x
  pub short : length x ≤ longest
  pub first : lower (get_or x 0 0) ≡ true
  pub letters : (k : ℕ) → k < length x → letter (get_or x k 0) ≡ true
  pub free : (c : Word) → ¬ (spelling c ≡ x)
