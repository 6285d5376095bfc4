-- `sweep::Quest::through` meets its contract. Assumes nothing.
use Rattle.std.specs.Prelude.{ℕ, ◌+◌, ◌<◌, min, not, IfSome}
use Rattle.std.proofs.Common.{◌∙◌, ap, subst, arith}
use Rattle.std.proofs.lemmas.Option.{IfSome_then}
use Rattle.logic.specs.Table.{tree}
use Rattle.candidates.specs.Counter.{Passes}
use Rattle.candidates.specs.CounterLaws.{total_low}
use Rattle.skips.specs.Blocks.{weight, after}
use Rattle.sweep.specs.SweepLaws.{number_rises, piece_found, piece_passed, given_nothing, going_past}
use Rattle.sweep.specs.StartLaws.{low_le}
use Rattle.sweep.specs.ThroughLaws.{piece_of, label_over, stack_over}
use Rattle.sweep.proofs.Quest.through.Goals as goal
use Rattle.sweep.proofs.Quest.through.Goals.{then-is_none+in_default, else-is_none}

pub number_after-next-requires : goal.number_after-next-requires
number_after-next-requires c =
    let q = c.requires in
    let a = c.args.self.now in
    let below : IfSome c.out_of_order_from-x.result (λ x. x < a.vars) = IfSome_then c.out_of_order_from-x.result c.out_of_order_from-x.ensures (λ x y. y.0) in
    (q.3, omega (arith, c.unwrap_or-free.ensures, low_le c.out_of_order_from-x.result a.vars below), omega (arith, q.4, total_low a.vars a.locs q.2 q.3))

pub returns-in-Some : goal.returns-in-Some
returns-in-Some c =
    let a = c.args.self.now in
    let l = c.loop-i in
    let m = c.loop-i-test.true in
    let q = piece_of a.profile a.vars a.locs a.path (tree a.table.now a.node) c.args.from c.args.to l.i l.c l.invariant m c.min.result _ c.in-Some.ensures in
    piece_found _ _ _ _ _ _ q c.args.from c.args.to l.c l.invariant m (omega (arith, c.min.ensures))

pub loop-i-smaller : goal.loop-i-smaller
loop-i-smaller c = omega (arith, number_rises _ _ _ _ c.number_after-next.ensures, c.loop-i-test.true)

pub loop-i-preserved : goal.loop-i-preserved
loop-i-preserved c =
    let a = c.args.self.now in
    let l = c.loop-i in
    let m = c.loop-i-test.true in
    let F = tree a.table.now a.node in
    let to = c.args.to in
    let x = c.out_of_order_from-x.result in
    let next = c.number_after-next.result in
    let e = c.number_after-next.ensures ∙ ap (λ (y : ℕ). after (weight a.locs (a.locs + y)) l.i) c.unwrap_or-free.ensures in
    let z = subst (λ (y : ℕ). Passes (weight l.c.locs (l.c.locs + y)) l.c c.pass_stack-c.result) c.unwrap_or-free.ensures c.pass_stack-c.ensures in
    elim c.if-is_none.branch [
      | then-is_none+in_default w ↦
          let q = piece_of a.profile a.vars a.locs a.path F c.args.from to l.i l.c l.invariant m w.min.result _ w.in_default.ensures in
          stack_over a.profile a.vars a.locs a.path F c.args.from to l.i l.c l.invariant m x w.min.result next (piece_passed _ _ _ _ _ q) e (omega (arith, w.min.ensures)) c.requires.4 _ z
      | else-is_none w ↦
          let passed = label_over a.profile a.vars a.locs a.path F c.args.from to l.i l.c l.invariant m x (c.is_none.ensures ∙ ap not w.if-is_none.false) c.out_of_order_from-x.ensures (min next to) (omega (arith, e)) in
          stack_over a.profile a.vars a.locs a.path F c.args.from to l.i l.c l.invariant m x (min next to) next passed e (omega arith) c.requires.4 _ z
    ]

pub returns : goal.returns
returns c = given_nothing _ _ _ _ _ (going_past _ _ _ _ _ _ _ c.loop-i.invariant c.loop-i-test.false)
