-- What proofs/Sorted speaks of. Assumes nothing: these are definitions.
use Rattle.std.specs.Prelude.{List, [], ◌∷◌, ◌++◌, ℕ, suc, ◌+◌, ◌≤◌, ◌<◌, length}
use Rattle.grammar.specs.Grammar.{Event, named, finished}
use Rattle.grammar.specs.Machine.{Mode, item, gap, empty, head, word, arg, name, nil, shut, over, dead}

unfoldable pub Sorted : ℕ → List Event → Type 0
Sorted lo [] = Unit {0}
Sorted lo (named x i j ∷ es) = (lo ≤ i) × (i < j) × Sorted j es
Sorted lo (finished q m ∷ es) = (lo ≤ q) × Sorted (suc q) es

-- what has come before byte i in mode m: a name's letters have
abbrev pub Since : Mode → ℕ → ℕ → Type 0
Since (name x p σ) lo i = lo + length x ≤ i
Since (item σ) lo i = lo ≤ i
Since (gap σ) lo i = lo ≤ i
Since (empty c r σ) lo i = lo ≤ i
Since (head σ) lo i = lo ≤ i
Since (word c r σ) lo i = lo ≤ i
Since (arg p σ) lo i = lo ≤ i
Since (nil r p σ) lo i = lo ≤ i
Since (shut F σ) lo i = lo ≤ i
Since (over F) lo i = lo ≤ i
Since dead lo i = Unit {0}

-- the events at byte i, and what has come before the next
pub record Onward (m : Mode) (lo i : ℕ) (es : List Event) : Type 0 where
  pub low : ℕ
  pub since : Since m low (suc i)
  pub sorts : (fs : List Event) → Sorted low fs → Sorted lo (es ++ fs)
