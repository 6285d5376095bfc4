-- `uses::count` meets its contract. Assumes nothing.
use Rattle.std.specs.Prelude.{◌≡◌, ℕ, ◌<◌}
use Rattle.std.proofs.Common.{refl, ◌∙◌, ap, arith}
use Rattle.logic.specs.Table.{uses}
use Rattle.logic.proofs.TableLaws.{uses_more}
use Rattle.logic.specs.Book.{most_nodes, nodes}
use Rattle.uses.specs.CountLaws.{uses_le, none_counted}
use Rattle.uses.proofs.count.Goals as goal

pub loop-j-init : goal.loop-j-init
loop-j-init c = (refl, none_counted c.args.f.now most_nodes)

pub uses_by-requires : goal.uses_by-requires
uses_by-requires c =
    let a = c.args in
    let p = c.requires in
    let l = c.loop-j in
    let below : l.j < nodes a.f.now = c.loop-j-test.true in
    (omega arith, p.1 l.j below, omega (arith, p.0), omega (arith, l.invariant.0), λ k. omega (arith, l.invariant.1 k, uses_le a.f.now l.j k))

pub loop-j-preserved : goal.loop-j-preserved
loop-j-preserved c =
    let a = c.args in
    let l = c.loop-j in
    let q = c.uses_by in
    (omega (arith, q.auto.t, l.invariant.0), λ k. omega (arith, q.ensures k, l.invariant.1 k, uses_more a.f.now k l.j))

pub returns : goal.returns
returns c =
    let a = c.args in
    let l = c.loop-j in
    let end : l.j ≡ nodes a.f.now = omega arith in
    λ k. l.invariant.1 k ∙ ap (λ (j : ℕ). uses a.f.now j k) end
