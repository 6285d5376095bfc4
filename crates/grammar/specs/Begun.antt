-- What proofs/Begun speaks of. Assumes nothing: these are definitions.
use Rattle.std.specs.Prelude.{◌≡◌, true, List, ℕ, ◌≤◌, ◌<◌, length, get_or}
use Rattle.grammar.specs.Phrase.{lower, letter}
use Rattle.grammar.specs.Machine.{Mode, item, gap, empty, head, word, arg, name, nil, shut, over, viable, dead}

-- letters with which a name may begin
pub record Begun (x : List ℕ) : Type 0 where
  pub some : 1 ≤ length x
  pub first : lower (get_or x 0 0) ≡ true
  pub letters : (k : ℕ) → k < length x → letter (get_or x k 0) ≡ true
  pub can : viable x ≡ true

-- ---- in every mode

abbrev pub Fine : Mode → Type 0
Fine (name x p σ) = Begun x
Fine (item σ) = Unit {0}
Fine (gap σ) = Unit {0}
Fine (empty c r σ) = Unit {0}
Fine (head σ) = Unit {0}
Fine (word c r σ) = Unit {0}
Fine (arg p σ) = Unit {0}
Fine (nil r p σ) = Unit {0}
Fine (shut F σ) = Unit {0}
Fine (over F) = Unit {0}
Fine dead = Unit {0}
