-- `lines::put_lines` meets its contract. Assumes nothing.
use borrow.Author.Rules.{rules}
use native.Mathlib.Omega.{arith}
use Rattle.lines.specs.Printed.{first_line, printed_model, printed}
use Rattle.put.specs.PutsLaws.{puts_at_front, room_first}
use Rattle.put.specs.PensLaws.{writes_writes, writes_as, space_behind}
use Rattle.lines.specs.PrintedLaws.{room_printed, printed_no, printed_yes}
use Rattle.lines.proofs.put_lines.Goals as goal

pub put_answer-requires : goal.put_answer-requires
put_answer-requires c =
    let x = c.args in
    let all = room_printed x.a x.v x.n x.model.now x.out.now (omega arith) (omega arith) (omega arith) c.requires.0 c.requires.1 (λ i. (c.type_inv.model i).fits) c.requires.4 in
    room_first 0 (first_line x.a) (printed_model x.v x.n x.model.now) x.out.now all

pub returns-then-not-found : goal.returns-then-not-found
returns-then-not-found c =
    let x = c.args in
    let q = c.put_answer.new.pen in
    let w = puts_at_front (printed x.a x.v x.n x.model.now) x.out.now q.out.now q.at (writes_as (printed_no x.a x.v x.n x.model.now (λ e. omega (arith, c.if-not-found.true))) c.put_answer.ensures).puts in
    record { value = w.0; out_after = search rules }

pub put_model-requires : goal.put_model-requires
put_model-requires c =
    let x = c.args in
    let all = room_printed x.a x.v x.n x.model.now x.out.now (omega arith) (omega arith) (omega arith) c.requires.0 c.requires.1 (λ i. (c.type_inv.model i).fits) c.requires.4 in
    (c.requires.2, c.requires.3, space_behind c.put_answer.ensures (printed_model x.v x.n x.model.now) all)

pub returns : goal.returns
returns c =
    let x = c.args in
    let q = c.put_model.new.pen in
    let w = puts_at_front (printed x.a x.v x.n x.model.now) x.out.now q.out.now q.at (writes_as (printed_yes x.a x.v x.n x.model.now (omega (arith, c.if-not-found.false))) (writes_writes c.put_answer.ensures c.put_model.ensures)).puts in
    record { value = w.0; out_after = search rules }
