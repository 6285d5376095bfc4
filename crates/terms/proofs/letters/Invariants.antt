-- What the loop keeps.
use mathlib.Core.Path.{◌≡◌}
use mathlib.Core.List.{List}
use Prim.Native.Nat.{◌+◌, ◌<◌}
use lib.ListN.{length}
use Rattle.grammar.specs.Steps.{onward}
use Rattle.grammar.specs.Machine.{Frame, Spot, name}
use Rattle.terms.specs.Letters.{letters_of}
use Rattle.terms.proofs.letters.Given as goal

abbrev pub invariant-loop-e : goal.invariant-loop-e
invariant-loop-e l =
    (0 < l.x) × (l.e + length (letters_of l.w) ≡ l.at + length (letters_of l.x))
    × ((t : Spot) (σ : List Frame) → onward l.s (name (letters_of l.w) t σ) l.at ≡ onward l.s (name (letters_of l.x) t σ) l.e)
