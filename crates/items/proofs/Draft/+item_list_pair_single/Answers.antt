-- `items::Draft::item`, `list`, `pair` and `single`, which call each other, meet their contracts: the rest of the text falls. Assumes
-- nothing.
use mathlib.Core.Path.{refl}
use native.Mathlib.Omega.{arith}
use Rattle.std.proofs.lemmas.Result.{err_from_is_err_and}
use Rattle.leaves.proofs.Refusals.{never_zero}
use Rattle.grammar.specs.Machine.{only_one, first_of}
use Rattle.words.specs.declared.ListWord.TheVariants.{Join as Joins, Not, Atom as Relates}
use Rattle.words.specs.Words.{join_of}
use Rattle.items.specs.ReadLaws.{stops_at, more_nodes}
use Rattle.items.specs.ListLaws.{item_empty, item_list, item_deep, list_said, first_refused, second_refused, pair_read, single_read}
use Rattle.items.proofs.Draft.+item_list_pair_single.Goals as goal

pub item-returns-then-depth-ge-DEEPEST : goal.item-returns-then-depth-ge-DEEPEST
item-returns-then-depth-ge-DEEPEST t c =
    let k = c.skip-from in
    item_deep _ _ _ _ k.result k.ensures _ (c.opens.ensures.to c.if-opens.true) c.if-depth-ge-DEEPEST.true refl refl

pub item-returns-then-opens : goal.item-returns-then-opens
item-returns-then-opens t c =
    let k = c.skip-from in
    item_list _ _ _ _ k.result k.ensures _ (c.opens.ensures.to c.if-opens.true) (omega arith) c.list.ensures

pub item-returns : goal.item-returns
item-returns t c = let k = c.skip-from in item_empty _ _ _ _ k.result k.ensures _ (c.empty.ensures c.args.depth)

pub list-returns-in_err-end : goal.list-returns-in_err-end
list-returns-in_err-end t c =
    let p = err_from_is_err_and c.from_residual.result c.from_residual.ensures.1 in
    rw (p.1, p.2) (stops_at _ _ _ _ c.in_err-end.field-0.0.at refl refl (λ σ l. c.in_err-end.ensures σ))

pub list-returns-in-Join : goal.list-returns-in-Join
list-returns-in-Join t c = list_said c.args.s.now c.args.at c.in_ok-end.was c.word.ensures _ _ _ (Joins c.in-Join.c) c.in-Join.is c.pair.ensures

pub list-returns-in-Not : goal.list-returns-in-Not
list-returns-in-Not t c = list_said c.args.s.now c.args.at c.in_ok-end.was c.word.ensures _ _ _ Not c.in-Not.is c.single.ensures

pub list-returns-in-Atom : goal.list-returns-in-Atom
list-returns-in-Atom t c = list_said c.args.s.now c.args.at c.in_ok-end.was c.word.ensures _ _ _ (Relates c.in-Atom.c) c.in-Atom.is (c.relation.ensures c.args.depth)

pub pair-returns-in_err-first : goal.pair-returns-in_err-first
pair-returns-in_err-first t c =
    let p = err_from_is_err_and c.from_residual.result c.from_residual.ensures.1 in
    rw (p.1, p.2) (first_refused _ _ _ _ (first_of (join_of c.args.word)) c.in_err-first.ensures (never_zero c.in_err-first.field-0.0))

pub pair-returns-in_err-second : goal.pair-returns-in_err-second
pair-returns-in_err-second t c =
    let p = err_from_is_err_and c.from_residual-in_err-second.result c.from_residual-in_err-second.ensures.1 in
    rw (p.1, p.2) (second_refused _ _ _ _ (join_of c.args.word) _ (c.in_ok-first.ensures.read refl) c.in_err-second.ensures (never_zero c.in_err-second.field-0.0))

pub pair-joined-requires : goal.pair-joined-requires
pair-joined-requires t c =
    let q = c.in_ok-first.ensures.read refl in
    let u = c.in_ok-second.ensures.read refl in
    (omega (arith, more_nodes _ _ _ _ _ _ q), more_nodes _ _ _ _ _ _ u)

pub pair-returns : goal.pair-returns
pair-returns t c =
    pair_read _ _ _ _ (join_of c.args.word) _ (c.in_ok-first.ensures.read refl) _ (c.in_ok-second.ensures.read refl) c.joined.ensures _ c.closed.ensures

pub single-returns-in_err-only : goal.single-returns-in_err-only
single-returns-in_err-only t c =
    let p = err_from_is_err_and c.from_residual.result c.from_residual.ensures.1 in
    rw (p.1, p.2) (first_refused _ _ _ _ only_one c.in_err-only.ensures (never_zero c.in_err-only.field-0.0))

pub single-denied-requires : goal.single-denied-requires
single-denied-requires t c = let q = c.in_ok-only.ensures.read refl in omega (arith, more_nodes _ _ _ _ _ _ q)

pub single-returns : goal.single-returns
single-returns t c = single_read _ _ _ _ _ (c.in_ok-only.ensures.read refl) c.denied.ensures _ c.closed.ensures
