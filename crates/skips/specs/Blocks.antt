-- Blocks of candidates: those that share all but their lowest digits. Assumes nothing: these are definitions.
use Rattle.std.specs.Prelude.{◌≡◌, ℕ, ◌+◌, ◌-◌, ◌*◌, ◌/◌, ◌^◌, eqb, ltb}
use Rattle.logic.specs.Heap.{Map}
use Rattle.logic.specs.Tests.{pick}
use Rattle.logic.specs.Search.{Lowest}
use Rattle.skips.specs.Counts.{outgoing}

-- how many candidates share all digits but the j lowest: digits in base n+2 for the n locations, then in base n+1
unfoldable pub weight : ℕ → ℕ → ℕ
weight n j = pick (ltb j n) ((n + 2) ^ j) ((n + 2) ^ n * (n + 1) ^ (j - n))

-- c is in the block of w candidates that i is in
abbrev pub Block : ℕ → ℕ → ℕ → Type 0
Block w i c = c / w ≡ i / w

-- the first number after the block
abbrev pub after : ℕ → ℕ → ℕ
after w i = (i / w + 1) * w

-- no candidate of the block is the lowest of P
abbrev pub Skippable : (ℕ → Type 0) → ℕ → ℕ → ℕ → Type 0
Skippable P t w i = (c : ℕ) → Block w i c → ¬ Lowest P t c

-- the most that out(ℓ) can be where only the digits above j are known
unfoldable pub most_outgoing : ℕ → Map → ℕ → ℕ
most_outgoing j h ℓ = pick (ltb j ℓ) (outgoing h ℓ) (pick (eqb ℓ 0) 0 1)
