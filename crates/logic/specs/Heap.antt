-- Stacks, heaps, and when two heaps are strongly disjoint. Assumes nothing: these are definitions.
use Rattle.std.specs.Prelude.{◌≡◌, ◌⊎◌, ℕ, suc, ◌<◌, ◌≤◌}
use Rattle.logic.specs.declared.Profile.{Profile}
use Rattle.logic.specs.declared.Profile.TheVariants.{Strong, Ordinary}

-- A stack gives each variable's location. A heap gives at each location the candidate's digit: "0 unallocated, d > 0 meaning
-- value d−1". Both are functions of every number, so that they are the same functions whatever v and n are.
abbrev pub Map : Type 0
Map = ℕ → ℕ

-- "Variables are 1 to v; variable 0 is nil. Locations are 0 to n; location 0 is nil's."
pub record Stack (v n : ℕ) (s : Map) : Type 0 where
  pub nil : s 0 ≡ 0
  pub low : (x : ℕ) → s x ≤ n
  pub past : (x : ℕ) → v < x → s x ≡ 0

-- "for locations 1 to n, the value 0 to n, or .. unallocated. Nil is never allocated."
pub record Heap (n : ℕ) (h : Map) : Type 0 where
  pub nil : h 0 ≡ 0
  pub past : (ℓ : ℕ) → n < ℓ → h ℓ ≡ 0
  pub low : (ℓ : ℕ) → h ℓ ≤ suc n

-- "D for its allocated locations"
abbrev pub Allocated : Map → ℕ → Type 0
Allocated h ℓ = ¬ (h ℓ ≡ 0)

-- the value at ℓ is x
abbrev pub Value : Map → ℕ → ℕ → Type 0
Value h ℓ x = h ℓ ≡ suc x

-- "locs(h) for D with all values of h"
abbrev pub Locs : Map → ℕ → Type 0
Locs h ℓ = Allocated h ℓ ⊎ ((j : ℕ) × Value h j ℓ)

-- "Named locations are nil's and those of the declared variables, used or not." (Nil is variable 0.)
abbrev pub Named : ℕ → Map → ℕ → Type 0
Named v s ℓ = (x : ℕ) × (x ≤ v) × (s x ≡ ℓ)

-- where two pieces may meet: "each location in both locs is named"; in the ordinary profile "only that no cell be allocated
-- twice" is asked, so anywhere
abbrev pub MayMeet : Profile → ℕ → Map → ℕ → Type 0
MayMeet Strong v s ℓ = Named v s ℓ
MayMeet Ordinary v s ℓ = Unit {0}

-- "Strongly disjoint: no location allocated in both, and each location in both locs is named."
pub record Disjoint (π : Profile) (v : ℕ) (s g h : Map) : Type 0 where
  pub alone : (ℓ : ℕ) → ¬ (Allocated g ℓ × Allocated h ℓ)
  pub meet : (ℓ : ℕ) → Locs g ℓ → Locs h ℓ → MayMeet π v s ℓ

-- g and r are two parts of h: each location of h is in one of them, as it is in h, and not in the other
abbrev pub Parts : Map → Map → Map → Type 0
Parts g r h = (ℓ : ℕ) → ((g ℓ ≡ h ℓ) × (r ℓ ≡ 0)) ⊎ ((g ℓ ≡ 0) × (r ℓ ≡ h ℓ))

-- "h is empty"
abbrev pub Empty : Map → Type 0
Empty h = (ℓ : ℕ) → h ℓ ≡ 0
