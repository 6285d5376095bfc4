-- `words::skip` meets its contract. Assumes nothing.
use mathlib.Core.Bool.{true, false}
use mathlib.Core.Path.{◌≡◌, sym, subst, ◌∙◌}
use Prim.Native.Nat.{ℕ}
use native.Mathlib.Omega.{arith}
use lib.ListN.{length}
use Rattle.grammar.specs.Grammar.{blank, Blanks}
use Rattle.grammar.specs.Grammar.Blanks.{no_blank}
use Rattle.words.specs.WordLaws.{blank_first}
use Rattle.words.proofs.skip.Goals as goal

pub returns-then-not-is_blank : goal.returns-then-not-is_blank
returns-then-not-is_blank c =
    let l = c.loop-e in
    let t : c.is_blank.result ≡ false = c.if-not-is_blank.true in
    record { blanks = l.invariant l.e no_blank; from = omega arith; inside = omega arith; next = λ b q. subst (λ (z : ℕ). blank z ≡ false) q.1 (sym c.is_blank.ensures ∙ t) }

pub loop-e-preserved : goal.loop-e-preserved
loop-e-preserved c =
    let l = c.loop-e in
    let t : c.is_blank.result ≡ true = c.if-not-is_blank.false in
    λ j k. l.invariant j (blank_first c.args.s.now l.e j (sym c.is_blank.ensures ∙ t) (omega arith) k)

pub returns : goal.returns
returns c =
    let l = c.loop-e in
    let s = c.args.s.now in
    let end : l.e ≡ length s = omega (arith, c.far-e.ensures.1) in
    record { blanks = subst (Blanks s c.args.at) end (l.invariant l.e no_blank); from = c.requires; inside = omega arith; next = λ b q. absurd (omega (arith, q.0)) }
