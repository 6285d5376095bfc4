-- The facts of a formula at every location, for one stack, as a table with an entry a location. Assumes nothing: these are
-- definitions.
use Rattle.std.specs.Prelude.{List, ℕ, suc, ◌%◌, ◌/◌, ◌^◌, ◌≤◌, get_or}
use Rattle.logic.specs.declared.Profile.{Profile}
use Rattle.logic.specs.Heap.{Map}
use Rattle.logic.specs.Formula.{Form}
use Rattle.cells.specs.Cells.{most}
use Rattle.skips.specs.Facts.{Digits, Caps}
use Rattle.facts.specs.Known.{In}

-- an entry for nil and for each location
abbrev pub entries : ℕ
entries = suc most

-- sets of digits are the numbers below this one
abbrev pub set_size : ℕ
set_size = 2 ^ 16

-- an entry has the digits that may stand at its location, and the cap above them
abbrev pub digits_at : List ℕ → ℕ → ℕ
digits_at t ℓ = get_or t ℓ 0 % set_size

abbrev pub cap_at : List ℕ → ℕ → ℕ
cap_at t ℓ = get_or t ℓ 0 / set_size

-- they hold for the formula F at ℓ, in either profile and with any number of variables named
pub record EntryAt (n : ℕ) (F : Form) (s : Map) (t : List ℕ) (ℓ : ℕ) : Type 0 where
  pub digits : (π : Profile) (v : ℕ) → Digits π v n F s ℓ (In (digits_at t ℓ))
  pub caps : (π : Profile) (v : ℕ) → Caps π v n F s ℓ (cap_at t ℓ)
  pub low : cap_at t ℓ ≤ 255

-- t has the facts of F at every location
abbrev pub Facts : ℕ → Form → Map → List ℕ → Type 0
Facts n F s t = (ℓ : ℕ) → ℓ ≤ n → EntryAt n F s t ℓ
