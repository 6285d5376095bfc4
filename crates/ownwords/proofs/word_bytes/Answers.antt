-- `ownwords::word_bytes` meets its contract. Assumes nothing.
use mathlib.Core.Path.{ap}
use native.Mathlib.Omega.{arith}
use lib.ListN.{length}
use Rattle.ownwords.specs.OwnWords.{word_bytes}
use Rattle.ownwords.specs.OwnWordLaws.{words_short}
use Rattle.ownwords.proofs.word_bytes.Goals as goal

pub overflow_add-result-2 : goal.overflow_add-result-2
unfolding word_bytes
overflow_add-result-2 c =
    omega (arith, words_short c.args.op c.requires.0 c.requires.1, ap length c.before-2.ensures, ap length c.between.ensures, ap length c.behind.ensures)

pub returns : goal.returns
unfolding word_bytes
returns c =
    let s = words_short c.args.op c.requires.0 c.requires.1 in
    let a = ap length c.before-2.ensures in
    let b = ap length c.between.ensures in
    let d = ap length c.behind.ensures in
    (omega (arith, a, b, d), omega (arith, s, a, b, d))
