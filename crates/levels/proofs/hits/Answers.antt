-- `levels::hits` meets its contract. Assumes nothing.
use mir.Val.{bool_byte}
use Rattle.std.specs.Prelude.{◌≡◌, Bool, true, false, ℕ, ◌≤◌, eqb}
use Rattle.std.proofs.Common.{◌∙◌, ap, add-one, arith}
use Rattle.logic.specs.Tests.{pick}
use Rattle.skips.specs.Counts.{hit}
use Rattle.levels.proofs.hits.Goals as goal

pub returns : goal.returns
unfolding hit
returns c = told _ _ (c.from.ensures ∙ ap (λ (x : ℕ). bool_byte (eqb c.args.d x)) (add-one c.args.l))
  where
    told : (b : Bool) (r : ℕ) → r ≡ bool_byte b → (r ≡ pick b 1 0) × (r ≤ 1)
    told true r e = (e, omega arith)
    told false r e = (e, omega arith)
