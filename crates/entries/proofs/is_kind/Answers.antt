-- `entries::is_kind` meets its contract. Assumes nothing.
use Prim.Native.Nat.{◌+◌}
use native.Mathlib.Omega.{arith}
use Rattle.logic.proofs.Reflect.{is_iff, is_eq}
use Rattle.entries.proofs.is_kind.Goals as goal

pub returns : goal.returns
returns c = is_iff (is_eq c.from.result (c.args.e + 1)) (λ q. omega (arith, q, c.from.ensures)) (λ q. omega (arith, q, c.from.ensures))
