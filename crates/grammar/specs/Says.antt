-- What a text says of a stack and a heap, in its own words: no book, no septraction, and equations on any heap. Assumes nothing:
-- these are definitions.
use Rattle.std.specs.Prelude.{◌≡◌, ◌⊎◌, ℕ}
use Rattle.logic.specs.declared.Profile.{Profile}
use Rattle.logic.specs.Heap.{Map, Heap, Disjoint, Parts, Empty}
use Rattle.logic.specs.Holds.{Points, Segment}
use Rattle.grammar.specs.Phrase.{Term, Phrase, emp, join, deny, relate}
use Rattle.grammar.specs.Phrase.Join.{and_word, or_word, sep_word, wand_word}
use Rattle.grammar.specs.Phrase.Atom.{equal_word, distinct_word, pto_word, ls_word}

-- v variables, n locations; ν gives each term's variable, and s each variable's location
module _ (π : Profile) (v n : ℕ) (ν : Term → ℕ) (s : Map) where
  unfoldable pub Says : Phrase → Map → Type 0
  Says emp h = Empty h
  Says (deny F) h = ¬ Says F h
  Says (join and_word F G) h = Says F h × Says G h
  Says (join or_word F G) h = Says F h ⊎ Says G h
  -- two parts, disjoint as the profile asks
  Says (join sep_word F G) h = (g : Map) × (r : Map) × Parts g r h × Disjoint π v s g r × Says F g × Says G r
  -- every heap that says F, disjoint as the profile asks and added, makes a heap that says G
  Says (join wand_word F G) h = (g u : Map) → Heap n g → Parts g h u → Disjoint π v s g h → Says F g → Says G u
  -- "In this text `=` and `distinct` hold on any heap"
  Says (relate equal_word x y) h = s (ν x) ≡ s (ν y)
  Says (relate distinct_word x y) h = ¬ (s (ν x) ≡ s (ν y))
  Says (relate pto_word x y) h = Points (s (ν x)) (s (ν y)) h
  Says (relate ls_word x y) h = Segment (s (ν x)) (s (ν y)) h
