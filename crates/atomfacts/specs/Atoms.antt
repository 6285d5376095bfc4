-- What the facts of an atom say, and the sets of digits they are made of. Assumes nothing: these are definitions.
use Rattle.std.specs.Prelude.{◌≡◌, ℕ, ◌<◌, ◌^◌}
use Rattle.logic.specs.declared.Profile.{Profile}
use Rattle.logic.specs.Heap.{Map}
use Rattle.logic.specs.Formula.{Form}
use Rattle.skips.specs.Facts.{PointsDigit, ListDigit}
use Rattle.facts.specs.declared.fact.Fact.{Fact}
use Rattle.facts.specs.Known.{In, Known}

-- r holds for an atom over any two variables whose locations are a and b
pub record AtomAs (atom : ℕ → ℕ → Form) (n ℓ a b : ℕ) (r : Fact) : Type 0 where
  pub known : (π : Profile) (v : ℕ) (s : Map) (x y : ℕ) → s x ≡ a → s y ≡ b → Known π v n (atom x y) s ℓ r

-- r has the digits of m, but for d where Yes
pub record Dropped (m d : ℕ) (Yes : Type 0) (r : ℕ) : Type 0 where
  pub small : r < 2 ^ 16
  pub has : (e : ℕ) → In m e → (Yes → ¬ (e ≡ d)) → In r e

-- r has the digits at ℓ of a cell from a to b, and of a list from a to another location b
pub record PointsSet (a b ℓ r : ℕ) : Type 0 where
  pub small : r < 2 ^ 16
  pub has : (d : ℕ) → PointsDigit a b ℓ d → In r d

pub record ListSet (n a b ℓ r : ℕ) : Type 0 where
  pub small : r < 2 ^ 16
  pub has : (d : ℕ) → ListDigit n a b ℓ d → In r d
