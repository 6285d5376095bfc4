-- The judge's core meets its contracts: one proof, as its functions call each other. At each call the node number falls, or it
-- stays and the step within the node falls: node, connective, trial or search, location, digit, children. Assumes nothing.
use Rattle.std.proofs.Common.{◌≡◌, ◌<◌, get_or, sym, subst, ◌∙◌, ap, not, zero-le, arith}
use Rattle.logic.proofs.Reflect.{fails}
use Rattle.logic.specs.Table.{operand_of}
use Rattle.cells.specs.Cells.{SourceBelow}
use Rattle.pairs.specs.Steps.{sub_le}
use Rattle.judge.specs.Joins.{lower, ready_below, truth_5, truth_6, truth_7, truth_8, truth_9, truth_10}
use Rattle.judge.specs.Trial.{chosen_any, taken_small, sub_within, trying_none, trying_found, part_is_heap, rest_is_heap, serves_not_apart, serves_both, sep_out}
use Rattle.judge.specs.Walk.{walk_trying, walk_next}
use Rattle.judge.specs.Adding.{fill_first, whole_heap, fill_less, put_filled, fill_skip, fill_clash, put_found, fill_last, tried_more, added_is}
use Rattle.judge.proofs.Judge.+join.Goals as goal

-- ---- a child

pub child_holds-returns-in-8 : goal.child_holds-returns-in-8
child_holds-returns-in-8 t c =
    ap not c.side_holds.ensures ∙ sym (truth_8 _ _ _ (record { ready = c.requires.0; operator = omega (arith, c.in-8.is) }) _ c.in-8.is)

pub side_holds-child_holds-requires : goal.side_holds-child_holds-requires
side_holds-child_holds-requires t c =
    let e : c.from.result ≡ operand_of c.args.f.now c.args.k c.args.side
    = c.from.ensures ∙ ap (λ i. get_or c.args.f.now i 0) (omega arith) in
    let l : c.from.result < c.args.k = omega (arith, e, lower _ _ _ c.requires.0 c.args.side c.requires.2) in
    (omega arith, (ready_below _ _ _ c.requires.0 _ l, c.requires.1))

-- ---- a connective

pub join-returns-in-5 : goal.join-returns-in-5
join-returns-in-5 t c = c.both.ensures ∙ sym (truth_5 _ _ _ c.requires.0 _ c.in-5.is)

pub join-returns-then-side_holds : goal.join-returns-then-side_holds
join-returns-then-side_holds t c = c.if-side_holds.true ∙ sym (truth_6 _ _ _ c.requires.0 _ c.in-6.is ∙ rw (← c.side_holds.ensures, c.if-side_holds.true))

pub join-returns-else-side_holds : goal.join-returns-else-side_holds
join-returns-else-side_holds t c = c.side_holds-else-side_holds.ensures ∙ sym (truth_6 _ _ _ c.requires.0 _ c.in-6.is ∙ rw (← c.side_holds.ensures, c.if-side_holds.false))

pub join-returns-then-side_holds-2 : goal.join-returns-then-side_holds-2
join-returns-then-side_holds-2 t c = ap not c.side_holds-then-side_holds-2.ensures ∙ sym (truth_7 _ _ _ c.requires.0 _ c.in-7.is ∙ rw (← c.side_holds-in-7.ensures, c.if-side_holds-2.true))

pub join-returns-else-side_holds-2 : goal.join-returns-else-side_holds-2
join-returns-else-side_holds-2 t c = c.if-side_holds-2.false ∙ sym (truth_7 _ _ _ c.requires.0 _ c.in-7.is ∙ rw (← c.side_holds-in-7.ensures, c.if-side_holds-2.false))

pub join-returns-in-8 : goal.join-returns-in-8
join-returns-in-8 t c = ap not c.side_holds-in-8.ensures ∙ sym (truth_8 _ _ _ c.requires.0 _ c.in-8.is)

pub join-returns-in-9 : goal.join-returns-in-9
join-returns-in-9 t c = c.is_some.ensures ∙ chosen_any _ _ _ c.split.ensures ∙ sym (truth_9 _ _ _ c.requires.0 _ c.in-9.is)

pub join-returns-in_default : goal.join-returns-in_default
join-returns-in_default t c = added_is _ _ _ _ c.requires.0.ready.barred _ c.requires.1 _ _ _ c.added.ensures ∙ sym (truth_10 _ _ _ c.requires.0 _ (λ e. omega arith) (λ e. omega arith) (λ e. omega arith) (λ e. omega arith) (λ e. omega arith))

-- ---- the trial of parts

pub split-begin-i-requires : goal.split-begin-i-requires
split-begin-i-requires t c =
    (_, c.args.self.now.lists, taken_small _ _ _ c.requires.0.ready.few_locs c.requires.1 c.taken-a.ensures)

pub split-serves-requires : goal.split-serves-requires
split-serves-requires t c = let q = (walk_trying _ _ _ _ _ c.part_at-m.ensures c.loop-m.invariant) in (omega arith, (c.requires.0, c.requires.1, c.table-t.ensures, omega (arith, sub_le _ _ q.sub, c.taken-a.ensures.small), sub_within _ _ _ c.requires.0.ready.few_locs c.requires.1 c.taken-a.ensures _ q.sub))

pub split-loop-m-preserved : goal.split-loop-m-preserved
split-loop-m-preserved t c = walk_next _ _ _ c.requires.0.ready.few_locs c.requires.1 c.taken-a.ensures _ (λ i e. sep_out _ _ _ _ _ _ _ _ e) _ _ _ c.part_at-m.ensures c.loop-m.invariant c.if-m-a.false (sym c.serves.ensures ∙ c.if-serves.false)

pub split-returns-then-serves : goal.split-returns-then-serves
split-returns-then-serves t c = trying_found _ _ _ c.requires.0.ready.few_locs c.requires.1 c.taken-a.ensures _ (λ i e. sep_out _ _ _ _ _ _ _ _ e) _ (walk_trying _ _ _ _ _ c.part_at-m.ensures c.loop-m.invariant) (sym c.serves.ensures ∙ c.if-serves.true)

pub split-returns-then-m-a : goal.split-returns-then-m-a
split-returns-then-m-a t c = trying_none _ _ _ c.requires.0.ready.few_locs c.requires.1 c.taken-a.ensures _ (λ i e. sep_out _ _ _ _ _ _ _ _ e) _ (walk_trying _ _ _ _ _ c.part_at-m.ensures c.loop-m.invariant) c.if-m-a.true (sym c.serves.ensures ∙ c.if-serves.false)

pub serves-both-requires : goal.serves-both-requires
serves-both-requires t c = (omega arith, (c.requires.0, part_is_heap _ _ _ _ c.requires.0.ready.barred _ _ _ _ c.requires.1 c.requires.2 c.spread-e.ensures, rest_is_heap _ _ _ _ c.requires.0.ready.barred _ _ _ _ c.requires.1 c.requires.2 c.spread-e.ensures))

pub serves-returns-then-parts_apart : goal.serves-returns-then-parts_apart
serves-returns-then-parts_apart t c = serves_both _ _ _ _ c.requires.0.ready.barred _ _ _ _ c.requires.1 c.requires.2 c.spread-e.ensures _ _ _ c.requires.4 c.parts_apart.ensures _ c.if-parts_apart.true c.both.ensures

pub serves-returns-else-parts_apart : goal.serves-returns-else-parts_apart
serves-returns-else-parts_apart t c = c.if-parts_apart.false ∙ serves_not_apart _ _ _ _ c.requires.0.ready.barred _ _ _ _ c.requires.1 c.requires.2 c.spread-e.ensures _ _ _ c.requires.4 c.parts_apart.ensures c.if-parts_apart.false

-- ---- the search for an added heap

pub added-both-requires : goal.added-both-requires
added-both-requires t c = (omega arith, (c.requires.0, (fill_first _ _ _ _ c.requires.0.ready.barred _ c.requires.1 _ c.met-barred.ensures).heap, c.requires.1))

pub added-returns-then-l-eq0 : goal.added-returns-then-l-eq0
added-returns-then-l-eq0 t c = fill_skip _ _ _ _ c.requires.0.ready.barred _ c.requires.1 _ _ _ (fill_first _ _ _ _ c.requires.0.ready.barred _ c.requires.1 _ c.met-barred.ensures) _ _ 0 _ (subst (SourceBelow _ _ _) c.if-l-eq0.true c.source_below-l.ensures) (fill_last _ _ _ _ c.requires.0.ready.barred _ c.requires.1 _ _ (fill_less _ _ _ _ c.requires.0.ready.barred _ c.requires.1 _ _ _ (fill_first _ _ _ _ c.requires.0.ready.barred _ c.requires.1 _ c.met-barred.ensures) _ zero-le) _ _ _ c.both.ensures)

pub added-fill-requires : goal.added-fill-requires
added-fill-requires t c = let sb = c.source_below-l.ensures in (omega (arith, sb.low, c.requires.0.ready.few_locs), (c.requires.0, c.requires.1, (fill_less _ _ _ _ c.requires.0.ready.barred _ c.requires.1 _ _ _ (fill_first _ _ _ _ c.requires.0.ready.barred _ c.requires.1 _ c.met-barred.ensures) _ sb.low), omega arith, sb.source c.if-l-eq0.false))

pub added-returns : goal.added-returns
added-returns t c = fill_skip _ _ _ _ c.requires.0.ready.barred _ c.requires.1 _ _ _ (fill_first _ _ _ _ c.requires.0.ready.barred _ c.requires.1 _ c.met-barred.ensures) _ _ _ _ c.source_below-l.ensures c.fill.ensures

pub fill-loop-d-preserved : goal.fill-loop-d-preserved
fill-loop-d-preserved t c = tried_more _ _ _ _ c.requires.0.ready.barred _ c.requires.1 _ _ _ _ _ _ c.loop-d.invariant c.digit.ensures c.if-digit.false

pub digit-returns-then-not-is_target : goal.digit-returns-then-not-is_target
digit-returns-then-not-is_target t c = fill_clash _ _ _ _ c.requires.0.ready.barred _ c.requires.1 _ _ _ c.requires.2 _ _ _ (fails _ c.is_target.ensures c.if-not-is_target.true)

pub digit-both-requires : goal.digit-both-requires
digit-both-requires t c = let q = (put_filled _ _ _ _ c.requires.0.ready.barred _ c.requires.1 _ _ _ c.requires.2 _ _ c.requires.3 c.requires.7 c.placed.ensures c.requires.4 (c.is_target.ensures.to c.if-not-is_target.false)) in (omega arith, (c.requires.0, q.heap, whole_heap _ _ _ _ c.requires.0.ready.barred _ c.requires.1 _ _ _ q))

pub digit-returns-then-next-eq0 : goal.digit-returns-then-next-eq0
digit-returns-then-next-eq0 t c = put_found _ _ _ _ c.requires.0.ready.barred _ c.requires.1 _ _ _ c.requires.2 _ _ _ _ c.requires.3 c.requires.7 c.placed.ensures _ (fill_skip _ _ _ _ c.requires.0.ready.barred _ c.requires.1 _ _ _ (put_filled _ _ _ _ c.requires.0.ready.barred _ c.requires.1 _ _ _ c.requires.2 _ _ c.requires.3 c.requires.7 c.placed.ensures c.requires.4 (c.is_target.ensures.to c.if-not-is_target.false)) _ _ 0 _ (subst (SourceBelow _ _ _) c.if-next-eq0.true c.requires.6) (fill_last _ _ _ _ c.requires.0.ready.barred _ c.requires.1 _ _ (fill_less _ _ _ _ c.requires.0.ready.barred _ c.requires.1 _ _ _ (put_filled _ _ _ _ c.requires.0.ready.barred _ c.requires.1 _ _ _ c.requires.2 _ _ c.requires.3 c.requires.7 c.placed.ensures c.requires.4 (c.is_target.ensures.to c.if-not-is_target.false)) _ zero-le) _ _ _ c.both.ensures))

pub digit-fill-requires : goal.digit-fill-requires
digit-fill-requires t c = let sb = c.requires.6 in (omega (arith, c.requires.5), (c.requires.0, c.requires.1, (fill_less _ _ _ _ c.requires.0.ready.barred _ c.requires.1 _ _ _ (put_filled _ _ _ _ c.requires.0.ready.barred _ c.requires.1 _ _ _ c.requires.2 _ _ c.requires.3 c.requires.7 c.placed.ensures c.requires.4 (c.is_target.ensures.to c.if-not-is_target.false)) _ sb.low), omega arith, sb.source c.if-next-eq0.false))

pub digit-returns : goal.digit-returns
digit-returns t c = put_found _ _ _ _ c.requires.0.ready.barred _ c.requires.1 _ _ _ c.requires.2 _ _ _ _ c.requires.3 c.requires.7 c.placed.ensures _ (fill_skip _ _ _ _ c.requires.0.ready.barred _ c.requires.1 _ _ _ (put_filled _ _ _ _ c.requires.0.ready.barred _ c.requires.1 _ _ _ c.requires.2 _ _ c.requires.3 c.requires.7 c.placed.ensures c.requires.4 (c.is_target.ensures.to c.if-not-is_target.false)) _ _ _ _ c.requires.6 c.fill.ensures)
