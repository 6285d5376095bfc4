-- What proofs/TotalLaws speaks of. Assumes nothing: these are definitions.
use Rattle.std.specs.Prelude.{ℕ}

-- "T is at most 4,304,672,100,000,000"
abbrev pub most_total : ℕ
most_total = 4304672100000000
