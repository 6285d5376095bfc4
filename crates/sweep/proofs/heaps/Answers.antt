-- `sweep::heaps` meets its contract. Assumes nothing.
use Rattle.std.specs.Prelude.{◌≡◌, ℕ, ◌<◌, ◌≤◌, Option, None, Some, IfSome, not, is_some}
use Rattle.std.proofs.Common.{◌∙◌, ap, sym, subst, arith}
use Rattle.std.specs.Option.{unwrap_or}
use Rattle.std.proofs.lemmas.Option.{IfSome_then}
use Rattle.logic.specs.Model.{Fits}
use Rattle.logic.specs.Table.{tree}
use Rattle.logic.proofs.Reflect.{fails, false_true}
use Rattle.cells.specs.Cells.{cells}
use Rattle.judge.specs.Setting.{stack_of}
use Rattle.skips.specs.Blocks.{weight, after}
use Rattle.blocks.specs.Over.{Over}
use Rattle.sweep.specs.SweepLaws.{number_rises, given_found, given_nothing, going_past}
use Rattle.sweep.specs.StackLaws.{heap_fits, heap_over, number_small}
use Rattle.sweep.proofs.heaps.Goals as goal
use Rattle.sweep.proofs.heaps.Goals.{then-looking, else-looking, else-is_none-via-then-is_none+else-fits, else-is_none-via-else-is_none}

-- a level, or what stands for none
or_le : (j : Option ℕ) (d k : ℕ) → IfSome j (λ x. x < k) → d ≤ k → unwrap_or j d ≤ k
or_le None d k l h = h
or_le (Some x) d k l h = omega arith

pub returns-then-fits : goal.returns-then-fits
returns-then-fits c =
    let a = c.args in
    let l = c.loop-i in
    let m = c.loop-i-test.true in
    given_found _ _ _ _ _ _ _ l.invariant m c.requires.0.inside
    (heap_fits a.f.now a.judge.now.setting a.k a.known.now.facts.now a.known.now.unnamed _ a.from a.to c.requires.0 l.i l.c l.invariant m (c.fits.ensures.to c.if-fits.true))

pub number_after-i-requires : goal.number_after-i-requires
number_after-i-requires c =
    let a = c.args in
    let l = c.loop-i in
    let b = a.judge.now.setting in
    let j = c.if-looking.j in
    let below : IfSome j (λ x. x < b.locs) =
    elim c.if-looking.branch [
      | then-looking w ↦ rw (w.j-is, sym c.requires.1) (IfSome_then w.level-j.result w.level-j.ensures (λ x q. q.0))
      | else-looking w ↦ rw w.j-is tt
    ] in
    let free : c.unwrap_or.result ≤ b.locs = subst (λ (x : ℕ). x ≤ b.locs) (sym c.unwrap_or.ensures) (or_le j _ b.locs below (omega arith)) in
    (c.requires.0.ready.few_locs, omega (arith, free), number_small a.f.now b a.k a.known.now.facts.now a.known.now.unnamed _ a.from a.to c.requires.0 l.i l.c l.invariant c.loop-i-test.true)

pub loop-i-smaller : goal.loop-i-smaller
loop-i-smaller c = omega (arith, number_rises _ _ _ _ c.number_after-i.ensures, c.loop-i-test.true)

pub loop-i-preserved : goal.loop-i-preserved
loop-i-preserved c =
    let a = c.args in
    let l = c.loop-i in
    let b = a.judge.now.setting in
    let j = c.if-looking.j in
    let over : IfSome j (λ x. (x < b.locs) × Over a.known.now.facts.now a.known.now.unnamed b.locs l.c.heap x) =
    elim c.if-looking.branch [ then-looking w ↦ rw (w.j-is, sym c.requires.1) w.level-j.ensures | else-looking w ↦ rw w.j-is tt ] in
    let judged : j ≡ None → ¬ Fits b.profile b.vars b.locs b.path (tree a.f.now a.k) (stack_of b) (cells l.c.heap) =
    elim c.else-is_none.branch [
      | else-is_none-via-then-is_none+else-fits w ↦ λ e. fails _ w.fits.ensures w.if-fits.false
      | else-is_none-via-else-is_none w ↦ λ e. false_true (sym (ap is_some e) ∙ c.is_none.ensures ∙ ap not w.if-is_none.false)
    ] in
    heap_over a.f.now b a.k a.known.now.facts.now a.known.now.unnamed _ a.from a.to c.requires.0 l.i l.c l.invariant c.loop-i-test.true j over judged _ c.go_on-c.ensures _
    (c.number_after-i.ensures ∙ ap (λ (y : ℕ). after (weight b.locs y) l.i) c.unwrap_or.ensures)

pub returns : goal.returns
returns c = given_nothing _ _ _ _ _ (going_past _ _ _ _ _ _ _ c.loop-i.invariant c.loop-i-test.false)
