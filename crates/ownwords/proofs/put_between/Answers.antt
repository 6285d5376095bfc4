-- `ownwords::put_between` meets its contract. Assumes nothing.
use mathlib.Core.Path.{sym, ◌∙◌}
use native.Mathlib.Omega.{arith}
use Rattle.put.specs.PutsLaws.{room_as}
use Rattle.put.specs.PensLaws.{writes_as}
use Rattle.ownwords.specs.OwnWords.{between}
use Rattle.ownwords.specs.OwnWordLaws.{between_space}
use Rattle.ownwords.proofs.put_between.Goals as goal

pub put_word-requires-in_default : goal.put_word-requires-in_default
unfolding between
put_word-requires-in_default c =
    let p = c.args.pen.now in
    room_as p.at p.out.now (c.between-in_default.ensures ∙ sym (between_space _ c.requires.0 c.requires.1 (λ e. omega arith) (λ e. omega arith) (λ e. omega arith))) c.requires.2

pub returns-in_default : goal.returns-in_default
unfolding between
returns-in_default c =
    writes_as (c.between-in_default.ensures ∙ sym (between_space _ c.requires.0 c.requires.1 (λ e. omega arith) (λ e. omega arith) (λ e. omega arith))) c.put_word-in_default.ensures
