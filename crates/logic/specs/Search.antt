-- The search: which candidates fit a book, and the answer and the output of a search through them in their order. Assumes
-- nothing: these are definitions.
use Rattle.std.specs.Prelude.{◌≡◌, List, ◌++◌, ℕ, ◌+◌, ◌-◌, ◌<◌, ◌≤◌, length, drop}
use Rattle.logic.specs.declared.Profile.{Profile}
use Rattle.logic.specs.declared.Answer.{Answer}
use Rattle.logic.specs.Numbers.{yes_number, no_number, spent_number, output_length}
use Rattle.logic.specs.Checks.{Checks, done, check, ◌then◌, upto, Answers}
use Rattle.logic.specs.Formula.{Form}
use Rattle.logic.specs.Tests.{heap_of}
use Rattle.logic.specs.Book.{most, book_checks_within, vars_of, locs_of, path_of, formula_of, book_formula}
use Rattle.logic.specs.Strays.{name_checks}
use Rattle.logic.specs.Model.{Fits}
use Rattle.logic.specs.Candidates.{total, stack_of, model_of}

-- candidate c fits the formula F
abbrev pub CandidateFits : Profile → ℕ → ℕ → ℕ → Form → ℕ → Type 0
CandidateFits π v n p F c = Fits π v n p F (stack_of v n c) (heap_of n c)

-- candidate c fits the book s, and how many candidates it has
abbrev pub FitsAt : Profile → List ℕ → ℕ → Type 0
FitsAt π s c = CandidateFits π (vars_of s) (locs_of s) (path_of s) (book_formula s) c

abbrev pub total_of : List ℕ → ℕ
total_of s = total (vars_of s) (locs_of s)

-- "the lowest candidate that fits", of t candidates, has number k
pub record Lowest (P : ℕ → Type 0) (t k : ℕ) : Type 0 where
  pub candidate : k < t
  pub fits : P k
  pub lower : (i : ℕ) → i < k → ¬ P i

-- "Found: the lowest candidate that fits has a number below b"
abbrev pub Found : (ℕ → Type 0) → ℕ → ℕ → ℕ → Type 0
Found P t b k = Lowest P t k × (k < b)

-- "None: nothing fits and T ≤ b"
abbrev pub None : (ℕ → Type 0) → ℕ → ℕ → Type 0
None P t b = ((i : ℕ) → i < t → ¬ P i) × (t ≤ b)

-- the answer of a search that is not refused: a number and a tried count
abbrev pub searched : ℕ → ℕ → Answer
searched m tried = record { number = m; place = 0; tried = tried }

-- "Found: ..; tried is that number plus 1. None: ..; tried is T. Spent: otherwise; tried is b."
pub data Outcome (P : ℕ → Type 0) (t b : ℕ) (a : Answer) : Type 0 where
  found : (k : ℕ) → Found P t b k → a ≡ searched yes_number (k + 1) → Outcome P t b a
  none : None P t b → a ≡ searched no_number t → Outcome P t b a
  spent : ((k : ℕ) → ¬ Found P t b k) → ¬ None P t b → a ≡ searched spent_number b → Outcome P t b a

-- "20: output too short: under v+n bytes for a search, whatever it would find"
abbrev pub room_checks : List ℕ → List ℕ → Checks
room_checks s o = check (vars_of s + locs_of s ≤ length o) output_length 0 done

-- what a search asks of an accepted book and the output o: "25 .. after 16 and before 20"
abbrev pub search_rest : List ℕ → List ℕ → Checks
search_rest s o = upto (name_checks (formula_of s)) (vars_of s) then room_checks s o

-- "Order: 10 to 13; then nodes upwards, ..; 16; then .. 20 (search)"
abbrev pub search_checks_within : ℕ → List ℕ → List ℕ → Checks
search_checks_within k s o = book_checks_within k s then search_rest s o

abbrev pub search_checks : List ℕ → List ℕ → Checks
search_checks s o = search_checks_within most s o

-- what a search of the book s with budget b over the output o gives back, and the output that it leaves: "Output bytes change
-- only with number 0, only at the front, and only as many as are written."
pub record SearchesWithin (k : ℕ) (π : Profile) (s : List ℕ) (b : ℕ) (o : List ℕ) (a : Answer) (o' : List ℕ) : Type 0 where
  pub answer : Answers (search_checks_within k s o) (Outcome (FitsAt π s) (total_of s) b) a
  pub wrote : a.number ≡ yes_number → o' ≡ model_of (vars_of s) (locs_of s) (a.tried - 1) ++ drop (vars_of s + locs_of s) o
  pub kept : ¬ (a.number ≡ yes_number) → o' ≡ o

abbrev pub Searches : Profile → List ℕ → ℕ → List ℕ → Answer → List ℕ → Type 0
Searches π s b o a o' = SearchesWithin most π s b o a o'
