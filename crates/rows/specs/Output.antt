-- The encoding of a book, byte by byte, and what the encoder answers and writes. Assumes nothing: these are definitions.
use Rattle.std.specs.Prelude.{◌≡◌, List, ◌++◌, ℕ, ◌*◌, ◌≤◌, length, drop}
use Rattle.logic.specs.declared.Profile.{Profile}
use Rattle.logic.specs.declared.Answer.{Answer}
use Rattle.logic.specs.Numbers.{answer, yes_number, not_encodable, output_length}
use Rattle.logic.specs.Checks.{Checks, done, check, ◌then◌, Answers}
use Rattle.logic.specs.Book.{most, head_of, book_checks_within, vars_of, locs_of, path_of, book_formula}
use Rattle.rows.specs.Row.{Row, bytes_of}
use Rattle.rows.specs.Table.{table, Encodable}

-- the rows of the book s
abbrev pub book_rows : Profile → List ℕ → List Row
book_rows π s = table π (locs_of s) (path_of s) (book_formula s)

-- "The output is a book with entries kind 1 (the same bounds) and kind 3 (rows)."
abbrev pub out_book : ℕ → ℕ → ℕ → List Row → List ℕ
out_book v n p rs = head_of 3 v n p (10 * length rs) ++ bytes_of rs

unfoldable pub encoding_of : Profile → List ℕ → List ℕ
encoding_of π s = out_book (vars_of s) (locs_of s) (path_of s) (book_rows π s)

-- "then .. 19, 20 (encoder)": "formula not encodable"; "output too short: .. under the whole book for the encoder"
abbrev pub encode_rest : Profile → List ℕ → List ℕ → Checks
encode_rest π s o = check (Encodable (book_formula s)) not_encodable 0 (check (length (encoding_of π s) ≤ length o) output_length 0 done)

-- "Order: 10 to 13; then nodes upwards, ..; 16; then .."
abbrev pub encode_checks_within : ℕ → Profile → List ℕ → List ℕ → Checks
encode_checks_within k π s o = book_checks_within k s then encode_rest π s o

abbrev pub encode_checks : Profile → List ℕ → List ℕ → Checks
encode_checks π s o = encode_checks_within most π s o

-- what the encoder gives back for the book s and the output o, and what the output then is: "Output bytes change only with
-- number 0, only at the front, and only as many as are written."
pub record EncodesWithin (k : ℕ) (π : Profile) (s o : List ℕ) (a : Answer) (now : List ℕ) : Type 0 where
  pub number : Answers (encode_checks_within k π s o) (λ r. r ≡ answer yes_number 0) a
  pub written : a.number ≡ yes_number → now ≡ encoding_of π s ++ drop (length (encoding_of π s)) o
  pub refused : ¬ (a.number ≡ yes_number) → now ≡ o

abbrev pub Encodes : Profile → List ℕ → List ℕ → Answer → List ℕ → Type 0
Encodes π s o a now = EncodesWithin most π s o a now
