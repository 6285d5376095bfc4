-- The book of a book's text, when it can be had, and which of its models are matched by name. Assumes nothing: these are
-- definitions.
use Rattle.std.specs.Prelude.{◌≡◌, List, ℕ, ◌≤◌}
use Rattle.logic.specs.Checks.{Passes}
use Rattle.logic.specs.Book.{most_nodes, vars_of, locs_of, path_of, formula_of, book_formula, Accepted}
use Rattle.logic.specs.declared.Profile.{Profile}
use Rattle.logic.specs.Model.{stack_in, heap_in, model_checks, FitsBook}
use Rattle.logic.specs.Strays.{NamedByAtom}
use Rattle.grammar.specs.Phrase.{Phrase}
use Rattle.grammar.specs.Grammar.{deepest}
use Rattle.grammar.specs.Listing.{size_of}
use Rattle.grammar.specs.Meaning.{names_of, number_of, meaning, book_for}
use Rattle.grammar.specs.SaysLaws.{Iff}
use Rattle.writing.specs.Writing.{variable, phrase_of, depth_of}

-- what the text of the book s says
abbrev pub phrase_in : List ℕ → Phrase
phrase_in s = phrase_of (book_formula s)

-- the book that its text is read as, "of the same bounds"
abbrev pub book_again : List ℕ → List ℕ
book_again s = book_for (locs_of s) (path_of s) (phrase_in s)

-- "a book whose every declared variable is named by an atom"
abbrev pub AllNamed : List ℕ → Type 0
AllNamed s = (x : ℕ) → 1 ≤ x → x ≤ vars_of s → NamedByAtom (formula_of s) x

-- "where it fits in 64 nodes and depth 16"
pub record FitsText (s : List ℕ) : Type 0 where
  pub deep : depth_of (phrase_in s) ≤ deepest
  pub small : size_of (meaning (phrase_in s)) ≤ most_nodes

-- the number that variable x of the book s has when its text is read
abbrev pub renumbered : List ℕ → ℕ → ℕ
renumbered s x = number_of (names_of (phrase_in s)) (variable x)

-- a model in range, of the book s and of the book that its text is read as
abbrev pub ModelOf : List ℕ → List ℕ → Type 0
ModelOf s m = Passes (model_checks (vars_of s) (locs_of s) m)

-- "once variables are matched by name": each variable of the book s has in the model m the location that its name's has in m', and
-- the heap is the same
pub record Matched (s m m' : List ℕ) : Type 0 where
  pub stack : (x : ℕ) → x ≤ vars_of s → stack_in (vars_of s) m' (renumbered s x) ≡ stack_in (vars_of s) m x
  pub heap : heap_in (vars_of s) (locs_of s) m' ≡ heap_in (vars_of s) (locs_of s) m

-- the book b has the bounds of the book s, and "a formula that holds on exactly the same models", in both
-- profiles
pub record SameModels (s b : List ℕ) : Type 0 where
  pub accepted : Accepted b
  pub vars : vars_of b ≡ vars_of s
  pub locs : locs_of b ≡ locs_of s
  pub path : path_of b ≡ path_of s
  pub fits : (π : Profile) (m m' : List ℕ) → ModelOf s m → ModelOf s m' → Matched s m m' → Iff (FitsBook π s m) (FitsBook π b m')
