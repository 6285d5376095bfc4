-- `writer::book_to_text` meets its contract. Assumes nothing.
use mathlib.Core.Path.{refl}
use native.Mathlib.Omega.{arith}
use borrow.Author.Rules.{rules}
use Rattle.std.proofs.lemmas.Result.{err_from_is_err_and}
use Rattle.logic.specs.Numbers.{answer, yes_number}
use Rattle.logic.proofs.OpenLaws.{vars_low, known}
use Rattle.leaves.proofs.Refusals.{never_zero}
use Rattle.writer.specs.TextLaws.{read_refused, too_short, exported}
use Rattle.writer.proofs.book_to_text.Goals as goal

pub returns-in_err-formula : goal.returns-in_err-formula
returns-in_err-formula c =
    let p = err_from_is_err_and c.from_residual.result c.from_residual.ensures.1 in
    rw (p.1, p.2) (read_refused c.args.book.now c.args.out.now _ c.in_err-formula.ensures.read (never_zero c.in_err-formula.field-0.0))

pub text_length-requires : goal.text_length-requires
text_length-requires c = let o = c.in_ok-formula in (o.field-0.v, known c.args.book.now _ _ _ _ o.ensures.bodies)

pub returns-then-out-text_length : goal.returns-then-out-text_length
returns-then-out-text_length c =
    let o = c.in_ok-formula in
    too_short c.args.book.now c.args.out.now _ _ _ _ o.ensures.bodies _ (omega (arith, c.if-out-text_length.true, c.text_length.ensures)) refl

pub overflow_sub-formula : goal.overflow_sub-formula
overflow_sub-formula c = omega (arith, (known c.args.book.now _ _ _ _ c.in_ok-formula.ensures.bodies).some)

pub put_node-requires : goal.put_node-requires
put_node-requires c =
    let o = c.in_ok-formula in
    let w = known c.args.book.now _ _ _ _ o.ensures.bodies in
    (omega (arith, w.some), (o.field-0.v, (w, vars_low c.args.book.now _ _ _ _ o.ensures.bodies)), omega (arith, c.if-out-text_length.false, c.text_length.ensures))

pub returns : goal.returns
returns c =
    let o = c.in_ok-formula in
    let e = exported c.args.book.now c.args.out.now _ _ _ _ o.ensures.bodies (answer yes_number 0) _ _ c.put_node.ensures.puts refl in
    search rules
