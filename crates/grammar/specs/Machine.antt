-- The same texts byte by byte, with a stack of the lists that are open. Assumes nothing: these are definitions.
use Rattle.std.specs.Prelude.{Bool, true, false, not, List, [], ◌∷◌, ◌++◌, ℕ, suc, ◌-◌, eqb, leb, ltb, length, get_or, drop}
use Rattle.logic.specs.Tests.{andb, orb, same_bytes}
use Rattle.grammar.specs.Phrase.{bytes, choose, Join, Atom, Word, joins, denies, relates, Term, nil_term, name_term, Phrase, emp, join, deny, relate, spelling, lower, letter, longest}
use Rattle.grammar.specs.Phrase.Join.{and_word, or_word, sep_word, wand_word}
use Rattle.grammar.specs.Phrase.Atom.{equal_word, distinct_word, pto_word, ls_word}
use Rattle.grammar.specs.Grammar.{Event, named, finished, adds, deepest, blank}

-- an open list: it waits for its only formula, for its first, for its second
pub data Frame : Type 0 where
  only_one : Frame
  first_of : Join → Frame
  second_of : Join → Phrase → Frame

-- where a term stands: first in its list, or after the term x
pub data Spot : Type 0 where
  start : Atom → Spot
  later : Atom → Term → Spot

pub data Mode : Type 0 where
  item : List Frame → Mode
  gap : List Frame → Mode
  empty : ℕ → List ℕ → List Frame → Mode
  head : List Frame → Mode
  word : Word → List ℕ → List Frame → Mode
  arg : Spot → List Frame → Mode
  name : List ℕ → Spot → List Frame → Mode
  nil : List ℕ → Spot → List Frame → Mode
  shut : Phrase → List Frame → Mode
  over : Phrase → Mode
  dead : Mode

abbrev pub words : List Word
words =
    joins and_word ∷ joins or_word ∷ joins sep_word ∷ joins wand_word ∷ denies ∷ relates equal_word ∷ relates distinct_word ∷
    relates pto_word ∷ relates ls_word ∷ []

unfoldable pub among : List Word → List ℕ → Bool
among [] x = false
among (c ∷ cs) x = let r = among cs x in orb (same_bytes (spelling c) x) r

-- x is one of the words
abbrev pub reserved : List ℕ → Bool
reserved x = among words x

-- some name begins with the letters x
abbrev pub viable : List ℕ → Bool
viable x = orb (ltb (length x) longest) (andb (eqb (length x) longest) (not (reserved x)))

-- after a formula; true: after one that ends in a letter
abbrev pub past : Bool → Phrase → List Frame → Mode
past e F [] = over F
past e F (only_one ∷ σ) = shut (deny F) σ
past true F (first_of c ∷ σ) = gap (second_of c F ∷ σ)
past false F (first_of c ∷ σ) = item (second_of c F ∷ σ)
past e F (second_of c G ∷ σ) = shut (join c G F) σ

abbrev pub termed : Term → Spot → List Frame → Mode
termed x (start c) σ = arg (later c x) σ
termed x (later c y) σ = shut (relate c y x) σ

-- a closing bracket ends the term x
abbrev pub closing : Term → Spot → List Frame → Mode
closing x (start c) σ = dead
closing x (later c y) σ = past false (relate c y x) σ

abbrev pub opened : List Frame → Mode
opened σ = choose (leb (suc (length σ)) deepest) (head σ) dead

-- a word of the list is read; b is the byte after it
abbrev pub spoken : Word → ℕ → List Frame → Mode
spoken (relates c) b σ = choose (blank b) (arg (start c) σ) dead
spoken (joins c) b σ = choose (blank b) (item (first_of c ∷ σ)) (choose (eqb b 40) (opened (first_of c ∷ σ)) dead)
spoken denies b σ = choose (blank b) (item (only_one ∷ σ)) (choose (eqb b 40) (opened (only_one ∷ σ)) dead)

-- the word that begins with b
unfoldable pub begun : List Word → ℕ → List Frame → Mode
begun [] b σ = dead
begun (c ∷ cs) b σ = let r = begun cs b σ in choose (eqb b (get_or (spelling c) 0 0)) (word c (drop 1 (spelling c)) σ) r

unfoldable pub step : Mode → ℕ → Mode
step (item σ) b = choose (blank b) (item σ) (choose (eqb b 40) (opened σ) (choose (eqb b 115) (empty 101 (bytes "p.emp") σ) dead))
step (gap σ) b = choose (blank b) (item σ) (choose (eqb b 40) (opened σ) dead)
step (empty c [] σ) b = choose (eqb b c) (past true emp σ) dead
step (empty c (d ∷ r) σ) b = choose (eqb b c) (empty d r σ) dead
step (head σ) b = choose (blank b) (head σ) (begun words b σ)
step (word w [] σ) b = spoken w b σ
step (word w (c ∷ r) σ) b = choose (eqb b c) (word w r σ) dead
step (arg p σ) b = choose (blank b) (arg p σ) (choose (lower b) (name (b ∷ []) p σ) dead)
step (name x p σ) b =
    choose (letter b) (choose (viable (x ++ (b ∷ []))) (name (x ++ (b ∷ [])) p σ) dead)
    (choose (eqb b 46) (choose (same_bytes (spelling (joins sep_word)) x) (nil (bytes "nil") p σ) dead)
    (choose (reserved x) dead (choose (blank b) (termed (name_term x) p σ) (choose (eqb b 41) (closing (name_term x) p σ) dead))))
step (nil (c ∷ r) p σ) b = choose (eqb b c) (nil r p σ) dead
step (nil [] p σ) b = choose (blank b) (termed nil_term p σ) (choose (eqb b 41) (closing nil_term p σ) dead)
step (shut F σ) b = choose (blank b) (shut F σ) (choose (eqb b 41) (past false F σ) dead)
step (over F) b = choose (blank b) (over F) dead
step dead b = dead

-- ---- what is finished at byte i, which is b, if it may stand there

abbrev pub own : Phrase → ℕ
own emp = 1
own (join c F G) = adds (joins c)
own (deny F) = adds denies
own (relate c x y) = adds (relates c)

abbrev pub shuts : Spot → ℕ → ℕ → List Event
shuts (start c) b i = []
shuts (later c y) b i = choose (eqb b 41) (finished i (adds (relates c)) ∷ []) []

unfoldable pub out : Mode → ℕ → ℕ → List Event
out (item σ) b i = []
out (gap σ) b i = []
out (empty c [] σ) b i = finished i 1 ∷ []
out (empty c (d ∷ r) σ) b i = []
out (head σ) b i = []
out (word w r σ) b i = []
out (arg p σ) b i = []
out (name x p σ) b i = choose (letter b) [] (choose (eqb b 46) [] (named x (i - length x) i ∷ shuts p b i))
out (nil (c ∷ r) p σ) b i = []
out (nil [] p σ) b i = shuts p b i
out (shut F σ) b i = choose (eqb b 41) (finished i (own F) ∷ []) []
out (over F) b i = []
out dead b i = []

-- ---- what a text comes to

pub data Trace : Type 0 where
  read : Phrase → Trace
  bad : ℕ → Trace
  event : Event → Trace → Trace

unfoldable pub emits : List Event → Trace → Trace
emits [] t = t
emits (e ∷ es) t = event e (emits es t)

unfoldable pub ending : Mode → ℕ → Trace
ending (over F) i = read F
ending (item σ) i = bad i
ending (gap σ) i = bad i
ending (empty c r σ) i = bad i
ending (head σ) i = bad i
ending (word w r σ) i = bad i
ending (arg p σ) i = bad i
ending (name w p σ) i = bad i
ending (nil r p σ) i = bad i
ending (shut F σ) i = bad i
ending dead i = bad i

unfoldable pub alive : Mode → Bool
alive dead = false
alive (over F) = true
alive (item σ) = true
alive (gap σ) = true
alive (empty c r σ) = true
alive (head σ) = true
alive (word w r σ) = true
alive (arg p σ) = true
alive (name w p σ) = true
alive (nil r p σ) = true
alive (shut F σ) = true

-- the text s, which begins at byte i, from mode m on
unfoldable pub run : Mode → ℕ → List ℕ → Trace
run m i [] = ending m i
run m i (b ∷ s) =
    let r = emits (out m b i) (run (step m b) (suc i) s) in
    choose (alive (step m b)) r (bad i)
