-- `ownwords::term_bytes` meets its contract. Assumes nothing.
use mathlib.Core.Path.{sym, ap}
use native.Mathlib.Omega.{arith}
use lib.ListN.{length}
use Rattle.ownwords.specs.OwnWordLaws.{name_is}
use Rattle.ownwords.proofs.term_bytes.Goals as goal

pub returns-else-x-eq0 : goal.returns-else-x-eq0
returns-else-x-eq0 c = (sym (ap length (name_is c.args.x (omega arith))), omega arith)
