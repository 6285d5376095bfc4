-- A model's bytes, the stack and the heap in them, when a model fits, and what the model judge answers. Assumes nothing: these
-- are definitions.
use Rattle.std.specs.Prelude.{◌≡◌, List, ◌⊎◌, ℕ, zero, suc, ◌+◌, ◌≤◌, eqb, ltb, length, get_or}
use Rattle.logic.specs.declared.Profile.{Profile}
use Rattle.logic.specs.declared.Answer.{Answer}
use Rattle.logic.specs.Numbers.{answer, yes_number, no_number, model_length, model_value}
use Rattle.logic.specs.Checks.{Checks, done, check, ◌then◌, upto, Answers}
use Rattle.logic.specs.Heap.{Map}
use Rattle.logic.specs.Formula.{Form}
use Rattle.logic.specs.Paths.{NoLongPath}
use Rattle.logic.specs.Holds.{Holds}
use Rattle.logic.specs.Tests.{pick}
use Rattle.logic.specs.Book.{most, book_checks_within, vars_of, locs_of, path_of, book_formula}

-- "A model is v bytes (each variable's location, 0 to n)"
unfoldable pub stack_in : ℕ → List ℕ → Map
stack_in v m zero = 0
stack_in v m (suc i) = pick (ltb i v) (get_or m i 0) 0

-- "the value 0 to n, or 255 for unallocated", as a digit
abbrev pub digit_of : ℕ → ℕ
digit_of x = pick (eqb x 255) 0 (suc x)

-- "and then n bytes (for locations 1 to n ..). Nil is never allocated."
unfoldable pub heap_in : ℕ → ℕ → List ℕ → Map
heap_in v n m zero = 0
heap_in v n m (suc i) = pick (ltb i n) (digit_of (get_or m (v + i) 0)) 0

-- x is in range as byte i of a model: a location, or from byte v on a location or 255
abbrev pub InRange : ℕ → ℕ → ℕ → ℕ → Type 0
InRange v n i x = (x ≤ n) ⊎ ((v ≤ i) × (x ≡ 255))

abbrev pub ByteOk : ℕ → ℕ → List ℕ → ℕ → Type 0
ByteOk v n m i = InRange v n i (get_or m i 0)

-- "17, 18: model of wrong length; value out of range", at its "first such byte"
abbrev pub byte_checks : ℕ → ℕ → List ℕ → ℕ → Checks
byte_checks v n m i = check (ByteOk v n m i) model_value i done

abbrev pub model_checks : ℕ → ℕ → List ℕ → Checks
model_checks v n m = check (length m ≡ v + n) model_length 0 (upto (byte_checks v n m) (v + n))

-- a model fits a formula: its root holds, and "p bounds the model": "one with a simple path (all locations different) of more
-- than p links along its own cells doesn't fit"
abbrev pub Fits : Profile → ℕ → ℕ → ℕ → Form → Map → Map → Type 0
Fits π v n p F s h = Holds π v n F s h × NoLongPath p h

-- the model m fits the book s
abbrev pub FitsBook : Profile → List ℕ → List ℕ → Type 0
FitsBook π s m =
    Fits π (vars_of s) (locs_of s) (path_of s) (book_formula s) (stack_in (vars_of s) m) (heap_in (vars_of s) (locs_of s) m)

-- "Order: 10 to 13; then nodes upwards, ..; 16; then 17, 18 (model)"
abbrev pub judge_checks_within : ℕ → List ℕ → List ℕ → Checks
judge_checks_within k s m = book_checks_within k s then model_checks (vars_of s) (locs_of s) m

abbrev pub judge_checks : List ℕ → List ℕ → Checks
judge_checks s m = judge_checks_within most s m

-- "0: fits"; "1: doesn't fit"
abbrev pub Verdict : Type 0 → Answer → Type 0
Verdict P a = (P × (a ≡ answer yes_number 0)) ⊎ ((¬ P) × (a ≡ answer no_number 0))

-- what the model judge gives back for the book s and the model m
abbrev pub JudgesWithin : ℕ → Profile → List ℕ → List ℕ → Answer → Type 0
JudgesWithin k π s m a = Answers (judge_checks_within k s m) (Verdict (FitsBook π s m)) a

unfoldable pub Judges : Profile → List ℕ → List ℕ → Answer → Type 0
Judges π s m a = JudgesWithin most π s m a
