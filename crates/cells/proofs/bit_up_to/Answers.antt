-- `cells::bit_up_to` meets its contract. Assumes nothing.
use mathlib.Core.Path.{sym, subst, ◌∙◌}
use Prim.Native.Nat.{suc, ◌^◌, ◌<◌}
use borrow.Author.Tests.{le-leb}
use Rattle.cells.specs.Unnamed.{bit_up_to_lt}
use Rattle.cells.proofs.bit_up_to.Goals as goal

pub returns-then-d-n : goal.returns-then-d-n
returns-then-d-n c = (c.bit.ensures ∙ rw (le-leb _ _ c.if-d-n.true), subst (λ x. x < 2 ^ suc c.args.n) (sym c.bit.ensures) (bit_up_to_lt _ _ c.if-d-n.true))
