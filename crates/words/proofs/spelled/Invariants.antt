-- What the loop keeps.
use Prim.Native.Nat.{ℕ, ◌+◌, ◌≤◌}
use Rattle.std.proofs.Common.{length, drop}
use Rattle.std.specs.Prelude.{Result}
use Rattle.words.specs.declared.BadText.{BadText}
use Rattle.words.specs.Words.{SpelledIs}
use Rattle.words.proofs.spelled.Given as goal

abbrev pub invariant-loop-i : goal.invariant-loop-i
invariant-loop-i l =
    (l.at + l.i ≤ length l.s)
    × ((r : Result ℕ BadText) → SpelledIs l.s (drop l.i l.letters) (l.at + l.i) r → SpelledIs l.s l.letters l.at r)
