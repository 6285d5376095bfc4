-- What proofs/Halts speaks of. Assumes nothing: these are definitions.
use Rattle.std.specs.Prelude.{◌≡◌, Bool, false, ℕ, suc}
use Rattle.std.proofs.Math.Bool.{true}
use mathlib.Core.List.{List, [], ◌∷◌, ◌++◌}
use Rattle.logic.specs.Tests.{andb}
use Rattle.grammar.specs.Grammar.{Event}
use Rattle.grammar.specs.Machine.{Mode, step, out, bad, ending, alive}

-- the mode after the bytes x, what is finished on the way, and whether all of them may stand there
unfoldable pub after : Mode → List ℕ → Mode
after m [] = m
after m (b ∷ x) = after (step m b) x

unfoldable pub during : Mode → ℕ → List ℕ → List Event
during m i [] = []
during m i (b ∷ x) = out m b i ++ during (step m b) (suc i) x

unfoldable pub lives : Mode → List ℕ → Bool
lives m [] = true
lives m (b ∷ x) = let r = lives (step m b) x in andb (alive (step m b)) r

-- nothing of the text left can be read
pub data Stuck (m : Mode) : List ℕ → Type 0 where
  no_more_text : ((i : ℕ) → ending m i ≡ bad i) → Stuck m []
  no_such_byte : {b : ℕ} {r : List ℕ} → alive (step m b) ≡ false → Stuck m (b ∷ r)

pub record Halt (m : Mode) (s : List ℕ) : Type 0 where
  pub done : List ℕ
  pub left : List ℕ
  pub parts : s ≡ done ++ left
  pub lived : lives m done ≡ true
  pub stuck : Stuck (after m done) left
