-- `print::put_printed` meets its contract. Assumes nothing.
use borrow.Author.Rules.{rules}
use native.Mathlib.Omega.{arith}
use Rattle.leaves.proofs.Refusals.{never_zero}
use Rattle.print.specs.PrintsLaws.{opens_given, opens_none, bounds_low, searched_locations, printed_at_front}
use Rattle.print.proofs.put_printed.Goals as goal

pub put_lines-requires : goal.put_lines-requires
put_lines-requires c =
    let s = c.args.book.now in
    let q = c.search-answer in
    let o = opens_given c.in-Ok.ensures.read c.in-Ok.ensures.bodies in
    let low = bounds_low s _ _ _ _ o in
    (low.0, low.1, omega arith, searched_locations s q.result q.new.out q.ensures _ _ _ _ o, search rules)

pub put_lines-requires-in-Err : goal.put_lines-requires-in-Err
put_lines-requires-in-Err c = (omega arith, omega arith, omega arith, λ i l. absurd (omega arith), search rules)

pub returns-in-Ok : goal.returns-in-Ok
returns-in-Ok c =
    let q = c.search-answer in
    let o = opens_given c.in-Ok.ensures.read c.in-Ok.ensures.bodies in
    printed_at_front c.args.book.now q.result q.new.out q.ensures _ _ _ _ o (c.put_lines.ensures.value, c.put_lines.ensures.out_after)

pub returns-in-Err : goal.returns-in-Err
returns-in-Err c =
    let q = c.search-answer in
    let o = opens_none c.in-Err.ensures.read (never_zero c.in-Err.field-0) in
    printed_at_front c.args.book.now q.result q.new.out q.ensures _ _ _ _ o (c.put_lines-in-Err.ensures.value, c.put_lines-in-Err.ensures.out_after)
