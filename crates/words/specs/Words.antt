-- What the readers of blanks, edges, brackets and words find. Assumes nothing: these are definitions.
use Rattle.std.specs.Prelude.{◌≡◌, true, false, List, [], ◌∷◌, ℕ, suc, ◌-◌, ◌≤◌, ◌<◌, Option, None, Some, Result, Ok, Err, length, drop}
use Rattle.grammar.specs.Steps.{waits}
use Rattle.grammar.specs.Steps.{onward}
use Rattle.grammar.specs.Phrase.{Join, Atom, Word, joins, denies, relates, Phrase, emp, spelling, sep_emp, sep_nil}
use Rattle.grammar.specs.Phrase.Join.{and_word, or_word, sep_word, wand_word}
use Rattle.grammar.specs.Phrase.Atom.{equal_word, distinct_word, pto_word, ls_word}
use Rattle.grammar.specs.Grammar.{finished, blank, Byte, Spelt, Blanks}
use Rattle.grammar.specs.Machine.{Frame, item, head, word, shut, dead, words, begun, past, own, bad, emits}
use Rattle.words.specs.declared.BadText.{BadText}
use Rattle.words.specs.declared.Join.{Join as Joined}
use Rattle.words.specs.declared.Join.TheVariants.{And, Or, Sep, Wand}
use Rattle.words.specs.declared.Atom.{Atom as Related}
use Rattle.words.specs.declared.Atom.TheVariants.{Equal, Distinct, Pto, Ls}
use Rattle.words.specs.declared.ListWord.{ListWord as Said}
use Rattle.words.specs.declared.ListWord.TheVariants.{Join as Joins, Not, Atom as Relates}

-- the words over two formulas, and those over two terms
abbrev pub join_of : Joined → Join
join_of And = and_word
join_of Or = or_word
join_of Sep = sep_word
join_of Wand = wand_word

abbrev pub atom_of : Related → Atom
atom_of Equal = equal_word
atom_of Distinct = distinct_word
atom_of Pto = pto_word
atom_of Ls = ls_word

-- the word that the code's is
abbrev pub word_of : Said → Word
word_of (Joins c) = joins (join_of c)
word_of Not = denies
word_of (Relates c) = relates (atom_of c)

-- the nine words by their numbers, then `sep.emp` and `sep.nil`
abbrev pub spellings : List (List ℕ)
spellings =
    spelling (joins and_word) ∷ spelling (joins or_word) ∷ spelling (joins sep_word) ∷ spelling (joins wand_word) ∷ spelling denies ∷
    spelling (relates equal_word) ∷ spelling (relates distinct_word) ∷ spelling (relates pto_word) ∷ spelling (relates ls_word) ∷
    sep_emp ∷ sep_nil ∷ []

-- b begins the word; or none
abbrev pub Begins : ℕ → Option Said → Type 0
Begins b (Some w) = (σ : List Frame) → begun words b σ ≡ word (word_of w) (drop 1 (spelling (word_of w))) σ
Begins b None = (σ : List Frame) → begun words b σ ≡ dead

module _ (s : List ℕ) where
  -- blanks are all that stands from i to j: those from j on are reached from i
  abbrev pub OverBlanks : ℕ → ℕ → Type 0
  OverBlanks i j = (k : ℕ) → Blanks s j k → Blanks s i k

  -- the blanks from i on end before j
  pub record Skipped (i j : ℕ) : Type 0 where
    pub blanks : Blanks s i j
    pub from : i ≤ j
    pub inside : j ≤ length s
    pub next : (b : ℕ) → Byte s b j → blank b ≡ false

  -- from i on the bytes x do not stand: p is the first place with another byte or none
  pub data Misses : List ℕ → ℕ → ℕ → Type 0 where
    here : {c i : ℕ} {x : List ℕ} → ¬ Byte s c i → Misses (c ∷ x) i i
    later : {c i p : ℕ} {x : List ℕ} → Byte s c i → Misses x (suc i) p → Misses (c ∷ x) i p

  abbrev pub SpelledIs : List ℕ → ℕ → Result ℕ BadText → Type 0
  SpelledIs x i (Ok j) = Spelt s x i j × (i ≤ j) × (j ≤ length s)
  SpelledIs x i (Err p) = Misses x i p.at × (p.at ≤ length s)

  -- a closing bracket finishes whatever formula it closes
  abbrev pub ShutIs : ℕ → Result ℕ BadText → Type 0
  ShutIs i (Ok j) =
      (i < j) × (j ≤ length s)
      × ((F : Phrase) (σ : List Frame) → onward s (shut F σ) i ≡ emits (finished (j - 1) (own F) ∷ []) (onward s (past false F σ) j))
  ShutIs i (Err p) = (F : Phrase) (σ : List Frame) → onward s (shut F σ) i ≡ bad p.at

  -- a list goes on behind its word
  abbrev pub WordIs : ℕ → Result (ℕ × Said) BadText → Type 0
  WordIs i (Ok (j, w)) = (i < j) × (j ≤ length s) × ((σ : List Frame) → onward s (head σ) i ≡ onward s (waits (word_of w) σ) j)
  WordIs i (Err p) = (σ : List Frame) → onward s (head σ) i ≡ bad p.at

  -- neither a blank nor an opening bracket stands at i
  abbrev pub FreeItem : ℕ → Type 0
  FreeItem i = (b : ℕ) → Byte s b i → (blank b ≡ false) × ¬ (b ≡ 40)

  -- `sep.emp` is one node, finished at its last byte
  abbrev pub EmpIs : ℕ → Result ℕ BadText → Type 0
  EmpIs i (Ok j) =
      (i < j) × (j ≤ length s)
      × ((σ : List Frame) → onward s (item σ) i ≡ emits (finished (j - 1) 1 ∷ []) (onward s (past true emp σ) j))
  EmpIs i (Err p) = (σ : List Frame) → onward s (item σ) i ≡ bad p.at
