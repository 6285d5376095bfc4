-- `search::searched` meets its contract. Assumes nothing.
use Rattle.std.proofs.Common.{refl}
use Rattle.std.proofs.lemmas.Result.{err_from_is_err_and}
use Rattle.logic.proofs.SearchLaws.{searches_refused}
use Rattle.leaves.proofs.Refusals.{never_zero}
use Rattle.search.specs.Searching.{not_found, usable, answer_stray, answer_short, rest_passes, write_ready, answer_wrote, answer_kept}
use Rattle.search.proofs.searched.Goals as goal

pub returns-in_err-problem : goal.returns-in_err-problem
returns-in_err-problem c =
    let a = c.args in
    let p = err_from_is_err_and c.from_residual.result c.from_residual.ensures.1 in
    rw (p.1, p.2) (searches_refused a.profile a.book.now a.budget a.out.now _ c.in_err-problem.ensures.read (never_zero c.in_err-problem.field-0.0))

pub named-requires : goal.named-requires
named-requires c =
    let a = c.args in
    let u = usable a.profile a.book.now _ _ _ _ c.in_ok-problem.ensures.bodies a.budget a.out.now in
    (u.0.sound, u.1)

pub returns-in_err-named : goal.returns-in_err-named
returns-in_err-named c =
    let a = c.args in
    let p = err_from_is_err_and c.from_residual-in_err-named.result c.from_residual-in_err-named.ensures.1 in
    rw (p.1, p.2) (answer_stray a.profile a.book.now _ _ _ _ c.in_ok-problem.ensures.bodies a.budget a.out.now _ c.in_err-named.ensures (never_zero c.in_err-named.field-0.0))

pub room-requires : goal.room-requires
room-requires c =
    let a = c.args in
    let u = usable a.profile a.book.now _ _ _ _ c.in_ok-problem.ensures.bodies a.budget a.out.now in
    (u.1, u.2)

pub returns-in_err-room : goal.returns-in_err-room
returns-in_err-room c =
    let a = c.args in
    let p = err_from_is_err_and c.from_residual-in_err-room.result c.from_residual-in_err-room.ensures.1 in
    rw (p.1, p.2) (answer_short a.profile a.book.now _ _ _ _ c.in_ok-problem.ensures.bodies a.budget a.out.now _ c.in_ok-named.ensures refl _ c.in_err-room.ensures (never_zero c.in_err-room.field-0.0))

pub hunt_in-ended-requires : goal.hunt_in-ended-requires
hunt_in-ended-requires c = let a = c.args in usable a.profile a.book.now _ _ _ _ c.in_ok-problem.ensures.bodies a.budget a.out.now

pub write-requires : goal.write-requires
write-requires c =
    let a = c.args in
    let q = c.in_ok-problem.ensures.bodies in
    let rest = rest_passes a.profile a.book.now _ _ _ _ q a.budget a.out.now _ c.in_ok-named.ensures refl _ c.in_ok-room.ensures refl in
    write_ready a.profile a.book.now _ _ _ _ q a.budget a.out.now rest _ _ c.in-Found.ensures

pub returns-in-Found : goal.returns-in-Found
returns-in-Found c =
    let a = c.args in
    let q = c.in_ok-problem.ensures.bodies in
    let rest = rest_passes a.profile a.book.now _ _ _ _ q a.budget a.out.now _ c.in_ok-named.ensures refl _ c.in_ok-room.ensures refl in
    answer_wrote a.profile a.book.now _ _ _ _ q a.budget a.out.now rest _ _ c.in-Found.ensures _ c.write.ensures

pub returns-in_default : goal.returns-in_default
returns-in_default c =
    let a = c.args in
    let q = c.in_ok-problem.ensures.bodies in
    let rest = rest_passes a.profile a.book.now _ _ _ _ q a.budget a.out.now _ c.in_ok-named.ensures refl _ c.in_ok-room.ensures refl in
    answer_kept a.profile a.book.now _ _ _ _ q a.budget a.out.now rest _ c.hunt_in-ended.ensures (not_found _ c.in_default.not-Found)
