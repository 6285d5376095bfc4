-- The book that an import wrote: whose formula it has, and with which bounds. Assumes nothing: these are definitions.
use Rattle.std.specs.Prelude.{◌≡◌, List, ℕ, ◌≤◌, length}
use Rattle.logic.specs.declared.Profile.{Profile}
use Rattle.logic.specs.Heap.{Map}
use Rattle.logic.specs.Paths.{NoLongPath}
use Rattle.logic.specs.Book.{vars_of, locs_of, path_of, formula_of, book_formula, Accepted}
use Rattle.grammar.specs.Phrase.{Phrase, emp, join, deny, relate}
use Rattle.grammar.specs.Phrase.Join.{and_word, or_word, sep_word, wand_word}
use Rattle.grammar.specs.Listing.{listing}
use Rattle.grammar.specs.Meaning.{names_of, number_of, meaning, book_for}
use Rattle.grammar.specs.Says.{Says}
use Rattle.grammar.specs.Import.{Good}
use Rattle.logic.specs.Strays.{NamedByAtom}

-- how many names a text has
abbrev pub names_in : Phrase → ℕ
names_in F = length (names_of F)

-- a stack and a heap fit the text F: it says so of them, its names numbered as they first appear, and no path is over p links
abbrev pub TextFits : Profile → ℕ → ℕ → Phrase → Map → Map → Type 0
TextFits π n p F s h = Says π (names_in F) n (number_of (names_of F)) s F h × NoLongPath p h

-- `wand` does not occur
unfoldable pub NoWand : Phrase → Type 0
NoWand emp = Unit {0}
NoWand (join wand_word F G) = ⊥
NoWand (join and_word F G) = NoWand F × NoWand G
NoWand (join or_word F G) = NoWand F × NoWand G
NoWand (join sep_word F G) = NoWand F × NoWand G
NoWand (deny F) = NoWand F
NoWand (relate c x y) = Unit {0}

-- b is the book of the text s, which means F
pub record Imported (s : List ℕ) (n p : ℕ) (F : Phrase) (b : List ℕ) : Type 0 where
  pub good : Good s F
  pub book : b ≡ book_for n p F
  pub accepted : Accepted b
  pub formula : book_formula b ≡ meaning F
  pub table : formula_of b ≡ listing 0 (meaning F)
  pub vars : vars_of b ≡ names_in F
  pub locs : locs_of b ≡ n
  pub path : path_of b ≡ p
  -- every variable is named by an atom
  pub named : (x : ℕ) → 1 ≤ x → x ≤ vars_of b → NamedByAtom (formula_of b) x
