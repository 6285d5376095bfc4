-- What a fact in code says of a node: its set of digits and its bounds are ones that hold. Assumes nothing: these are definitions.
use Rattle.std.specs.Prelude.{◌≡◌, true, ◌⊎◌, ℕ, suc, ◌+◌, ◌-◌, ◌≤◌}
use Rattle.logic.specs.declared.Profile.{Profile}
use Rattle.logic.specs.Heap.{Map}
use Rattle.logic.specs.Formula.{Form}
use Rattle.logic.specs.Tests.{in_part}
use Rattle.cells.specs.Cells.{most}
use Rattle.skips.specs.Facts.{Digits, Caps, Needs}
use Rattle.facts.specs.declared.fact.Fact.{Fact}

-- bit d of the set m is set
abbrev pub In : ℕ → ℕ → Type 0
In m d = in_part m (suc d) ≡ true

-- r's set and bounds hold for the formula F at ℓ
pub record Known (π : Profile) (v n : ℕ) (F : Form) (s : Map) (ℓ : ℕ) (r : Fact) : Type 0 where
  pub digits : Digits π v n F s ℓ (In r.digits)
  pub caps : Caps π v n F s ℓ r.cap
  pub needs : Needs π v n F s ℓ r.need

-- r holds for a join of any two formulas for which a and b hold
pub record JoinedAs (join : Form → Form → Form) (a b r : Fact) : Type 0 where
  pub known : (π : Profile) (v n : ℕ) (A B : Form) (s : Map) (ℓ : ℕ) → n ≤ most → Known π v n A s ℓ a → Known π v n B s ℓ b → Known π v n (join A B) s ℓ r

-- r holds for any formula
pub record AnyAs (n : ℕ) (r : Fact) : Type 0 where
  pub known : (π : Profile) (v : ℕ) (F : Form) (s : Map) (ℓ : ℕ) → Known π v n F s ℓ r

-- r is the bound of two together, or 255, which is as good as no bound
abbrev pub Together : ℕ → ℕ → ℕ → Type 0
Together i j r = (r ≤ 255) × ((r ≡ i + j - 1) ⊎ (r ≡ 255))

-- r has the digits of m where c has digit 0
pub record Kept (m c r : ℕ) : Type 0 where
  pub small : r ≤ m
  pub has : (d : ℕ) → In m d → In c 0 → In r d
