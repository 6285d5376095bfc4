-- What the program prints for a book. Assumes nothing: these are definitions.
use Rattle.std.specs.Prelude.{◌≡◌, List, ◌++◌, ℕ, ◌*◌, length, drop, replicate}
use Rattle.logic.specs.declared.Profile.TheVariants.{Strong}
use Rattle.logic.specs.declared.Answer.{Answer}
use Rattle.logic.specs.Book.{most, vars_of, locs_of}
use Rattle.logic.specs.Search.{SearchesWithin}
use Rattle.lines.specs.Printed.{printed}

-- "searches with budget 1,000,000"
abbrev pub budget : ℕ
budget = 1000000

-- the search's output, before the search: room for every model
abbrev pub blank_within : ℕ → List ℕ
blank_within k = replicate (2 * k) 0

abbrev pub blank : List ℕ
blank = blank_within most

-- "The program `shape` reads a book .., searches .. and .. prints": the lines of the search's answer and of its model
pub record PrintsWithin (k : ℕ) (s lines : List ℕ) : Type 0 where
  pub answer : Answer
  pub model : List ℕ
  pub search : SearchesWithin k Strong s budget (blank_within k) answer model
  pub shows : lines ≡ printed answer (vars_of s) (locs_of s) model

abbrev pub Prints : List ℕ → List ℕ → Type 0
Prints s lines = PrintsWithin most s lines

-- the size that is given back for the book s over the output o, and the output that is left: "Output bytes change .. only at the
-- front, and only as many as are written."
pub record PutsPrintedWithin (k : ℕ) (s o : List ℕ) (r : ℕ) (o' : List ℕ) : Type 0 where
  pub lines : List ℕ
  pub prints : PrintsWithin k s lines
  pub size : r ≡ length lines
  pub output : o' ≡ lines ++ drop r o

abbrev pub PutsPrinted : List ℕ → List ℕ → ℕ → List ℕ → Type 0
PutsPrinted s o r o' = PutsPrintedWithin most s o r o'
