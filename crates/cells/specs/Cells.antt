-- Stacks, heaps and sets of locations, each in one number, and what the functions of this crate say of such numbers. Assumes
-- nothing: these are definitions.
use Rattle.std.specs.Prelude.{◌≡◌, true, ◌⊎◌, ℕ, zero, suc, ◌^◌, ◌<◌, ◌≤◌, eqb}
use Rattle.std.specs.Int.Bits.{bit_and}
use Rattle.logic.specs.declared.Profile.{Profile}
use Rattle.logic.specs.Heap.{Map, Value, Locs, MayMeet}
use Rattle.logic.specs.Tests.{pick, digit, in_part, allocated}
use Rattle.logic.specs.Reflect.{Is}

-- the most locations, and the most variables, that fit in one number
abbrev pub most : ℕ
most = 8

-- sets of locations are the numbers below this one, "bit ℓ−1 for location ℓ", as parts are; it is itself no set's
abbrev pub full : ℕ
full = 2 ^ most

-- packed stacks and heaps are the numbers below this one
abbrev pub word : ℕ
word = 256 ^ most

-- the stack or the heap that w packs: variable or location ℓ is in byte ℓ−1. Nil is in none: it is at 0, and never allocated
unfoldable pub cells : ℕ → Map
cells w zero = 0
cells w (suc i) = digit 256 w i

-- r has d at ℓ and nothing elsewhere
abbrev pub Placed : ℕ → ℕ → ℕ → Type 0
Placed d l r = (ℓ : ℕ) → cells r ℓ ≡ pick (eqb ℓ l) d 0

-- r has a full byte at each location of part m
abbrev pub Spread : ℕ → ℕ → Type 0
Spread m r = (ℓ : ℕ) → cells r ℓ ≡ pick (in_part m ℓ) 255 0

-- each location of the set s is one of the set a
abbrev pub Sub : ℕ → ℕ → Type 0
Sub s a = bit_and s a ≡ s

-- r is the part that is all of w's allocated locations
pub record Taken (w r : ℕ) : Type 0 where
  pub small : r < full
  pub member : (ℓ : ℕ) → in_part r ℓ ≡ allocated (cells w) ℓ

-- r is the set of the locations at which two heaps may not meet: in the strong profile, of those that are not named
pub record Barred (π : Profile) (v n : ℕ) (s : Map) (r : ℕ) : Type 0 where
  pub small : r < full
  pub member : (ℓ : ℕ) → Is (in_part r ℓ) ((ℓ ≤ n) × (¬ MayMeet π v s ℓ))

-- a cell at ℓ with digit d has j for its location or for its value
abbrev pub Touches : ℕ → ℕ → ℕ → Type 0
Touches ℓ d j = ((¬ (d ≡ 0)) × (j ≡ ℓ)) ⊎ (d ≡ suc j)

-- r is the set of those that such a cell touches of the set u
pub record Touched (u ℓ d r : ℕ) : Type 0 where
  pub small : r < full
  pub member : (j : ℕ) → Is (in_part r j) (Touches ℓ d j × (in_part u j ≡ true))

-- t has for each cell of w the set of those that it touches of the set u
abbrev pub Tabled : ℕ → ℕ → ℕ → Type 0
Tabled u w t = (ℓ j : ℕ) → Is (in_part (cells t ℓ) j) (Touches ℓ (cells w ℓ) j × (in_part u j ≡ true))

-- j is in some set of the table t
abbrev pub Among : ℕ → ℕ → Type 0
Among t j = (ℓ : ℕ) × (in_part (cells t ℓ) j ≡ true)

-- r is the union of the table's sets
pub record Folded (t r : ℕ) : Type 0 where
  pub small : r < full
  pub member : (j : ℕ) → Is (in_part r j) (Among t j)

-- r is those of the set u that are locations of the heap w
pub record Met (u w r : ℕ) : Type 0 where
  pub small : r < full
  pub member : (j : ℕ) → Is (in_part r j) (Locs (cells w) j × (in_part u j ≡ true))

-- r is the set of the values of the heap w
pub record Values (w r : ℕ) : Type 0 where
  pub small : r < full
  pub member : (j : ℕ) → Is (in_part r j) ((¬ (j ≡ 0)) × ((ℓ : ℕ) × Value (cells w) ℓ j))

-- a heap that is strongly disjoint from w may have a cell at ℓ: w has none there, and ℓ is not in w's set of unnamed locations
abbrev pub Source : ℕ → ℕ → ℕ → Type 0
Source w met ℓ = (cells w ℓ ≡ 0) × (¬ (in_part met ℓ ≡ true))

-- r is the last such location up to l, or 0
pub record SourceBelow (w met l r : ℕ) : Type 0 where
  pub low : r ≤ l
  pub source : ¬ (r ≡ 0) → Source w met r
  pub passed : (ℓ : ℕ) → r < ℓ → ℓ ≤ l → ¬ Source w met ℓ

-- digit d is nothing, or its value is not in the set met
abbrev pub Target : ℕ → ℕ → Type 0
Target met d = (j : ℕ) → d ≡ suc j → ¬ (in_part met j ≡ true)

-- no location is in a set of both tables
abbrev pub Clear : ℕ → ℕ → Type 0
Clear t q = (j : ℕ) → Among t j → ¬ Among q j
