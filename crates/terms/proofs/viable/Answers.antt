-- `terms::viable` meets its contract. Assumes nothing.
use mathlib.Core.Path.{ap, sym, ◌∙◌}
use mathlib.Core.Bool.{not}
use native.Mathlib.Omega.{arith}
use borrow.Author.Tests.{lt-ltb}
use Rattle.terms.specs.LetterLaws.{viable_short, viable_full}
use Rattle.terms.proofs.viable.Goals as goal

pub returns-then-w-lt-EIGHT_LETTERS : goal.returns-then-w-lt-EIGHT_LETTERS
returns-then-w-lt-EIGHT_LETTERS c = lt-ltb c.args.w _ c.if-w-lt-EIGHT_LETTERS.true ∙ viable_short c.args.w c.if-w-lt-EIGHT_LETTERS.true

pub returns-else-w-lt-EIGHT_LETTERS : goal.returns-else-w-lt-EIGHT_LETTERS
returns-else-w-lt-EIGHT_LETTERS c = ap not c.is_word.ensures ∙ sym (viable_full c.args.w (omega arith) (omega arith))
