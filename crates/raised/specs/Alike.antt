-- Two lists of parts that refuse alike. Assumes nothing: these are definitions.
use Rattle.std.specs.Prelude.{◌↔◌, ℕ}
use Rattle.logic.specs.Checks.{Checks, done, check}

-- part by part the one holds exactly where the other does, with the same number and the same place
pub data Alike : Checks → Checks → Type 1 where
  no_part : Alike done done
  part : {P Q : Type 0} {c d : Checks} (m q : ℕ) → P ↔ Q → Alike c d → Alike (check P m q c) (check Q m q d)
