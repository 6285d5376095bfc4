-- The candidate that the code counts with: its number, and what one step does. Assumes nothing: these are definitions.
use Rattle.std.specs.Prelude.{◌≡◌, ℕ, suc, ◌+◌, ◌%◌, ◌^◌, ◌≤◌}
use Rattle.logic.specs.Heap.{Map, Stack, Heap}
use Rattle.logic.specs.Candidates.{total, InBase, value_of, digits_of, number_of}
use Rattle.cells.specs.Cells.{most, cells}
use Rattle.skips.specs.Counts.{above}
use Rattle.skips.specs.Blocks.{after}
use Rattle.candidates.specs.declared.Candidate.{Candidate}

-- r has the digits of the number b^j after w's, round from the last to 0: one more at digit j + 1
pub record Carries (b k j w r : ℕ) : Type 0 where
  pub base : InBase b k (cells r)
  pub value : value_of b k (cells r) ≡ (value_of b k (cells w) + b ^ j) % b ^ k

-- r has w's digits above j, and none up to it
abbrev pub Cleared : ℕ → ℕ → ℕ → Type 0
Cleared j w r = (ℓ : ℕ) → cells r ℓ ≡ above (suc j) (cells w) ℓ

-- r has the digits of the first number after w's block of b^j
pub record Bumps (b k j w r : ℕ) : Type 0 where
  pub base : InBase b k (cells r)
  pub value : value_of b k (cells r) ≡ after (b ^ j) (value_of b k (cells w)) % b ^ k

-- r has the k lowest digits of x in base b
abbrev pub Unpacks : ℕ → ℕ → ℕ → ℕ → Type 0
Unpacks b k x r = (ℓ : ℕ) → cells r ℓ ≡ digits_of b k x ℓ

-- c is a stack and a heap of its bounds
pub record WithinBounds (c : Candidate) : Type 0 where
  pub few_vars : c.vars ≤ most
  pub few_locs : c.locs ≤ most
  pub stack : Stack c.vars c.locs (cells c.stack)
  pub heap : Heap c.locs (cells c.heap)

-- "That number orders the candidates"
abbrev pub number : Candidate → ℕ
number c = number_of c.vars c.locs (cells c.stack) (cells c.heap)

-- "The candidate counter takes one step and gives itself back, the last going to the first." The stack changes only where the
-- heap is empty again.
pub record Next (c r : Candidate) : Type 0 where
  pub range : WithinBounds r
  pub vars : r.vars ≡ c.vars
  pub locs : r.locs ≡ c.locs
  pub number_is : number r ≡ (number c + 1) % total c.vars c.locs
  pub stack_kept : ¬ (r.heap ≡ 0) → r.stack ≡ c.stack

-- r is the first candidate after c's block of w
pub record Passes (w : ℕ) (c r : Candidate) : Type 0 where
  pub range : WithinBounds r
  pub vars : r.vars ≡ c.vars
  pub locs : r.locs ≡ c.locs
  pub number_is : number r ≡ after w (number c) % total c.vars c.locs
  pub stack_kept : ¬ (r.heap ≡ 0) → r.stack ≡ c.stack

-- m with x added at each, as bytes
unfoldable pub plus : ℕ → Map → Map
plus x m i = (m i + x) % 256
