-- `levels::out_most` meets its contract. Assumes nothing.
use mir.Val.{bool_byte}
use Rattle.std.specs.Prelude.{◌≡◌, Bool, true, false, ℕ, ◌≤◌, eqb, not}
use Rattle.std.proofs.Common.{◌∙◌, ap, arith, lt-ltb, le-ltb}
use Rattle.logic.specs.Tests.{pick}
use Rattle.skips.specs.Counts.{outgoing}
use Rattle.skips.specs.Blocks.{most_outgoing}
use Rattle.levels.proofs.out_most.Goals as goal
use Rattle.levels.proofs.out_most.Goals.{then-j-l, else-j-l}

told : (b : Bool) (r : ℕ) → r ≡ bool_byte (not b) → (r ≡ pick b 0 1) × (r ≤ 1)
told true r e = (e, omega arith)
told false r e = (e, omega arith)

pub returns : goal.returns
unfolding most_outgoing outgoing
returns c =
    let a = c.args in
    let r = c.from.result in
    elim c.if-j-l.branch [
      | then-j-l w ↦ rw (lt-ltb a.j a.l w.if-j-l.true) (told _ r (c.from.ensures ∙ ap bool_byte (w.has_some-is ∙ ap (λ (x : ℕ). not (eqb x 0)) w.cell.ensures)))
      | else-j-l w ↦ rw (le-ltb a.j a.l w.if-j-l.false) (told _ r (c.from.ensures ∙ ap bool_byte w.has_some-is))
    ]
