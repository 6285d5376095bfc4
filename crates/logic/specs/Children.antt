-- What proofs/Children speaks of. Assumes nothing: these are definitions.
use Rattle.std.specs.Prelude.{ℕ, eqb, leb}
use Rattle.logic.specs.Tests.{pick}

abbrev pub none : ℕ → ℕ
none o = pick (leb o 4) 1 0

abbrev pub one : ℕ → ℕ
one o = pick (eqb o 8) 1 0

abbrev pub two : ℕ → ℕ
two o = pick (leb o 4) 0 (pick (eqb o 8) 0 1)
