-- `terms::letters` meets its contract. Assumes nothing.
use mathlib.Core.Path.{◌≡◌, sym, ap, ◌∙◌}
use mathlib.Core.Bool.{true}
use Prim.Native.Nat.{ℕ, ◌+◌, ◌*◌}
use native.Mathlib.Omega.{arith}
use lib.ListN.{length, get_or}
use Rattle.grammar.specs.Phrase.{letter}
use Rattle.grammar.specs.Machine.{bad}
use Rattle.terms.specs.TermLaws.{name_cut, name_ninth, name_unviable, name_longer, length_longer}
use Rattle.terms.proofs.letters.Goals as goal

pub returns-then-x-ge-EIGHT_LETTERS : goal.returns-then-x-ge-EIGHT_LETTERS
returns-then-x-ge-EIGHT_LETTERS c =
    let a = c.args in
    let l = c.loop-e in
    let e : letter (get_or a.s.now l.e 0) ≡ true = sym c.is_letter.ensures ∙ c.if-not-is_letter.false in
    λ t σ. l.invariant.2 t σ ∙ name_ninth a.s.now l.x l.e c.loop-e-test.true e c.if-x-ge-EIGHT_LETTERS.true t σ

pub returns-then-not-viable : goal.returns-then-not-viable
returns-then-not-viable c =
    let a = c.args in
    let l = c.loop-e in
    let q : l.x * 256 + c.from.result ≡ l.x * 256 + get_or a.s.now l.e 0 = ap (λ (y : ℕ). l.x * 256 + y) c.from.ensures in
    let e : letter (get_or a.s.now l.e 0) ≡ true = sym c.is_letter.ensures ∙ c.if-not-is_letter.false in
    λ t σ. l.invariant.2 t σ ∙ name_unviable a.s.now l.x l.e c.loop-e-test.true e (l.x * 256 + c.from.result) q (sym c.viable.ensures ∙ c.if-not-viable.true) t σ

pub loop-e-preserved : goal.loop-e-preserved
loop-e-preserved c =
    let a = c.args in
    let l = c.loop-e in
    let q : l.x * 256 + c.from.result ≡ l.x * 256 + get_or a.s.now l.e 0 = ap (λ (y : ℕ). l.x * 256 + y) c.from.ensures in
    let e : letter (get_or a.s.now l.e 0) ≡ true = sym c.is_letter.ensures ∙ c.if-not-is_letter.false in (
      omega arith,
      omega (arith, l.invariant.1, length_longer a.s.now l.x l.e c.loop-e-test.true e (l.x * 256 + c.from.result) q),
      λ t σ. l.invariant.2 t σ ∙ name_longer a.s.now l.x l.e c.loop-e-test.true e (l.x * 256 + c.from.result) q (sym c.viable.ensures ∙ c.if-not-viable.false) t σ,
    )

pub returns : goal.returns
returns c =
    let a = c.args in
    let l = c.loop-e in
    let end : l.e ≡ length a.s.now = omega arith in
    λ t σ. l.invariant.2 t σ ∙ name_cut a.s.now l.x l.e (omega arith) (omega arith) t σ ∙ ap bad end
