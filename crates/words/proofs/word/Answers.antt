-- `words::word` meets its contract. Assumes nothing.
use mathlib.Core.Path.{◌≡◌}
use mathlib.Core.Bool.{true, false}
use Prim.Native.Nat.{◌+◌}
use native.Mathlib.Omega.{arith}
use Rattle.std.specs.Prelude.{Ok, Err}
use Rattle.std.proofs.lemmas.Result.{err_from_is_err_and}
use Rattle.logic.proofs.Reflect.{fails}
use Rattle.grammar.specs.Phrase.{spelling}
use Rattle.words.specs.Words.{word_of}
use Rattle.words.specs.WordLaws.{no_word, no_word_end, spelled_rest, word_found, word_unended, word_missed}
use Rattle.words.proofs.word.Goals as goal

pub returns-then-s-from : goal.returns-then-s-from
returns-then-s-from c = no_word_end c.args.s.now c.args.at c.skip-from.result c.skip-from.ensures c.if-s-from.true

pub returns-in_default : goal.returns-in_default
returns-in_default c = no_word c.args.s.now c.args.at c.skip-from.result c.skip-from.ensures c.in_default.ensures

pub returns-in_err-end : goal.returns-in_err-end
returns-in_err-end c =
    let s = c.args.s.now in
    let k = c.skip-from in
    let w = c.in-Some.word in
    let p = err_from_is_err_and c.from_residual.result c.from_residual.ensures.1 in
    let q = spelled_rest s c.letters.result.now (spelling (word_of w)) (k.result + 1) (Err c.in_err-end.field-0.0) c.letters.ensures c.in_err-end.ensures in
    rw (p.1, p.2) (word_missed s c.args.at k.result w k.ensures c.if-s-from.false c.in-Some.ensures c.in_err-end.field-0.0 q)

pub returns-then-not-edge : goal.returns-then-not-edge
returns-then-not-edge c =
    let s = c.args.s.now in
    let k = c.skip-from in
    let w = c.in-Some.word in
    let q = spelled_rest s c.letters.result.now (spelling (word_of w)) (k.result + 1) (Ok c.in_ok-end.end) c.letters.ensures c.in_ok-end.ensures in
    let f : c.edge.result ≡ false = c.if-not-edge.true in
    word_unended s c.args.at k.result w k.ensures c.if-s-from.false c.in-Some.ensures c.in_ok-end.end q (fails _ c.edge.ensures f)

pub returns : goal.returns
returns c =
    let s = c.args.s.now in
    let k = c.skip-from in
    let w = c.in-Some.word in
    let q = spelled_rest s c.letters.result.now (spelling (word_of w)) (k.result + 1) (Ok c.in_ok-end.end) c.letters.ensures c.in_ok-end.ensures in
    let f : c.edge.result ≡ true = c.if-not-edge.false in
    (omega (arith, q.1, k.ensures.from), q.2, word_found s c.args.at k.result w k.ensures c.if-s-from.false c.in-Some.ensures c.in_ok-end.end q (c.edge.ensures.to f))
