-- `words::edge` meets its contract. Assumes nothing.
use mathlib.Core.Path.{refl, subst}
use Prim.Native.Nat.{ℕ}
use native.Mathlib.Omega.{arith}
use Rattle.grammar.specs.Grammar.{Edge}
use Rattle.grammar.specs.Grammar.Edge.{at_end}
use Rattle.words.specs.WordLaws.{edge_bracket, edge_else}
use Rattle.words.proofs.edge.Goals as goal

pub returns-then-s-at : goal.returns-then-s-at
returns-then-s-at c = let a = c.args in record { to = λ e. subst (λ (i : ℕ). Edge a.s.now i) (omega arith) at_end; from = λ e. refl }

pub returns-in-40 : goal.returns-in-40
returns-in-40 c = let a = c.args in edge_bracket a.s.now a.at c.if-s-at.false (omega arith) (omega arith)

pub returns-in_default : goal.returns-in_default
returns-in_default c =
    let a = c.args in
    edge_else a.s.now a.at c.is_blank.result c.if-s-at.false (λ e. omega arith) (λ e. omega arith) c.is_blank.ensures
