-- An assignment's bytes, the assignment in them, and what the judge of assignments answers. Assumes nothing: these are
-- definitions.
use Rattle.std.specs.Prelude.{◌≡◌, List, ◌⊎◌, ℕ, zero, suc, ◌+◌, ◌*◌, ◌^◌, ◌<◌, ◌≤◌, ltb, length, get_or}
use Rattle.logic.specs.declared.Profile.{Profile}
use Rattle.logic.specs.declared.Answer.{Answer}
use Rattle.logic.specs.Numbers.{not_encodable, assignment_length, assignment_value}
use Rattle.logic.specs.Checks.{Checks, done, check, ◌then◌, upto, Answers}
use Rattle.logic.specs.Heap.{Map}
use Rattle.logic.specs.Tests.{andb, pick, in_part}
use Rattle.logic.specs.Book.{most, book_formula, book_checks_within, vars_of, locs_of}
use Rattle.logic.specs.Model.{stack_in, Verdict}
use Rattle.rows.specs.Assignment.{Assignment, Set}
use Rattle.rows.specs.Meaning.{Satisfies}
use Rattle.rows.specs.Table.{arrays, sets, Encodable}
use Rattle.rows.specs.Output.{book_rows}

-- "An assignment is v location bytes, n value bytes (0 to n) for each array, one byte for each set (bit ℓ−1 for location ℓ,
-- below 2^n).": at v variables, n locations and a arrays
module _ (v n a : ℕ) where
  -- array i: its value at location 1 is in its first byte. There are no others than the a arrays
  unfoldable pub array_in : List ℕ → ℕ → Map
  array_in q i zero = 0
  array_in q i (suc j) = pick (andb (ltb i a) (ltb j n)) (get_or q (v + i * n + j) 0) 0

  abbrev pub set_in : List ℕ → ℕ → Set
  set_in q j = in_part (get_or q (v + a * n + j) 0)

  abbrev pub assigned : List ℕ → Assignment
  assigned q = record { stack = stack_in v q; array = array_in q; set = set_in q }

  -- byte i is in range: a location or a value "0 to n", or a set "below 2^n"
  abbrev pub ValueOk : List ℕ → ℕ → Type 0
  ValueOk q i = ((i < v + a * n) × (get_or q i 0 ≤ n)) ⊎ ((v + a * n ≤ i) × (get_or q i 0 < 2 ^ n))

  abbrev pub value_checks : List ℕ → ℕ → Checks
  value_checks q i = check (ValueOk q i) assignment_value i done

  -- "21, 22: assignment of wrong length; value out of range", at its "first such byte"; b is the number of sets
  abbrev pub assignment_checks : ℕ → List ℕ → Checks
  assignment_checks b q =
      check (length q ≡ v + a * n + b) assignment_length 0 (upto (value_checks q) (v + a * n + b))

-- the assignment in the bytes q, for the book s
abbrev pub assigned_in : List ℕ → List ℕ → Assignment
assigned_in s q = assigned (vars_of s) (locs_of s) (arrays (book_formula s)) q

-- "It satisfies the table when the last row holds."
abbrev pub SatisfiesBook : Profile → List ℕ → List ℕ → Type 0
SatisfiesBook π s q = Satisfies (vars_of s) (assigned_in s q) (book_rows π s)

-- "then .. 19, 21, 22 (assignment)": "formula not encodable", then the assignment's own
abbrev pub assign_rest : List ℕ → List ℕ → Checks
assign_rest s q =
    check (Encodable (book_formula s)) not_encodable 0 (assignment_checks (vars_of s) (locs_of s) (arrays (book_formula s)) (sets (book_formula s)) q)

-- "Order: 10 to 13; then nodes upwards, ..; 16; then .."
abbrev pub assign_checks_within : ℕ → List ℕ → List ℕ → Checks
assign_checks_within k s q = book_checks_within k s then assign_rest s q

abbrev pub assign_checks : List ℕ → List ℕ → Checks
assign_checks s q = assign_checks_within most s q

-- what the judge of assignments gives back for the book s and the assignment q: "0: fits"; "1: doesn't fit"
abbrev pub AssignsWithin : ℕ → Profile → List ℕ → List ℕ → Answer → Type 0
AssignsWithin k π s q a = Answers (assign_checks_within k s q) (Verdict (SatisfiesBook π s q)) a

unfoldable pub Assigns : Profile → List ℕ → List ℕ → Answer → Type 0
Assigns π s q a = AssignsWithin most π s q a
