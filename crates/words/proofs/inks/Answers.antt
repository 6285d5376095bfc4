-- `words::inks` meets its contract. Assumes nothing.
use mathlib.Core.Path.{◌≡◌, subst}
use Prim.Native.Nat.{ℕ, ◌+◌}
use native.Mathlib.Omega.{arith}
use Rattle.grammar.specs.Grammar.{Blanks}
use Rattle.words.specs.WordLaws.{blank_first}
use Rattle.words.proofs.inks.Goals as goal

pub loop-k-preserved : goal.loop-k-preserved
loop-k-preserved c =
    let s = c.args.s.now in
    let at = c.args.at in
    let l = c.loop-k in
    let e : at + (l.k + 1) ≡ at + l.k + 1 = omega arith in
    (omega (arith, c.ink-n.ensures.0), λ z j h. l.invariant.1 (omega (arith, z)) j (blank_first s (at + l.k) j (c.ink-n.ensures.1 (omega (arith, z))) (omega arith) (subst (λ (m : ℕ). Blanks s m j) e h)))
