-- `candidates::weight_of` meets its contract. Assumes nothing.
use mathlib.Core.Path.{◌∙◌, ap₂, sym, subst}
use Prim.Native.Nat.{ℕ, ◌*◌, ◌≤◌}
use native.Mathlib.Nat.{mul-le-mul}
use native.Mathlib.Omega.{arith}
use Rattle.skips.proofs.BlockLaws.{weight_some}
use Rattle.candidates.specs.PassLaws.{weight_below, weight_from}
use Rattle.candidates.proofs.weight_of.Goals as goal

pub returns-then-j-n : goal.returns-then-j-n
returns-then-j-n c =
    let a = c.args in
    let e = c.power.ensures.0 ∙ weight_below a.n a.j c.if-j-n.true in
    (e, omega (arith, e, weight_some a.n a.j), omega (arith, c.power.ensures.1))

pub returns-else-j-n : goal.returns-else-j-n
returns-else-j-n c =
    let a = c.args in
    let e = ap₂ (λ (x y : ℕ). x * y) c.power-else-j-n.ensures.0 c.power-else-j-n-2.ensures.0 ∙ weight_from a.n a.j c.if-j-n.false in
    (e, subst (λ (x : ℕ). 1 ≤ x) (sym e) (weight_some a.n a.j), mul-le-mul c.power-else-j-n.ensures.1 c.power-else-j-n-2.ensures.1)
