-- `book::open` meets its contract. Assumes nothing.
use Rattle.std.specs.Prelude.{◌≡◌, List, ℕ, ◌<◌, ◌≤◌, length, get_or}
use Rattle.std.proofs.Common.{refl, sym, ◌∙◌, ap, arith}
use Rattle.std.proofs.lemmas.Result.{err_from_is_err_and}
use Rattle.logic.specs.Numbers.{answer}
use Rattle.logic.specs.Checks.{upto, Passes, Answers}
use Rattle.logic.specs.CheckLaws.{Yes}
use Rattle.logic.specs.Table.{Sound}
use Rattle.logic.specs.Book.{most_nodes, stretch, LaidOut, formula_of, nodes, root, contents_checks, body_checks, node_checks, use_checks, Reads}
use Rattle.logic.proofs.BookLaws.{reads_laid_out, formula_short, reads_contents, reads_bodies, reads_nodes, reads_uses, bodies_pass, nodes_pass, nodes_sound, reads_yes}
use Rattle.leaves.proofs.Refusals.{never_zero}
use Rattle.book.proofs.open.Goals as goal

laid : (s : List ℕ) → Answers (contents_checks s) Yes (answer 0 0) → LaidOut s
laid s q = reads_laid_out s (answer 0 0) q refl

-- the two bodies, b and f, of a book whose contents are as stated
module _ (s b f : List ℕ) (g : Answers (contents_checks s) Yes (answer 0 0)) (eb : b ≡ stretch s 0) (ef : f ≡ formula_of s)
    (q : Answers (body_checks b f) Yes (answer 0 0)) where
  passed : Passes (body_checks b f)
  passed = bodies_pass b f 0 q refl

  three : length b ≡ 3
  unfolding Passes
  three = passed.0.three

  whole : Answers (upto (node_checks (get_or b 0 0) f) (nodes f)) Yes (answer 0 0) → (0 < nodes f) × (nodes f ≤ most_nodes) × Sound (get_or b 0 0) f (nodes f)
  unfolding Passes
  whole k = (
    omega (arith, passed.1.0.0, passed.1.0.1),
    omega (arith, ap length ef, formula_short s (laid s g) (sym (ap length eb) ∙ three)),
    nodes_sound (get_or b 0 0) f (nodes_pass (get_or b 0 0) f (answer 0 0) k refl),
  )

  used : Answers (upto (node_checks (get_or b 0 0) f) (nodes f)) Yes (answer 0 0) → Answers (upto (use_checks f) (root f)) Yes (answer 0 0) → Reads s (answer 0 0)
  used k u = reads_uses s b f (laid s g) eb ef (answer 0 0) passed (nodes_pass (get_or b 0 0) f (answer 0 0) k refl) u

pub returns-in_err-check-clause-read : goal.returns-in_err-check-clause-read
returns-in_err-check-clause-read c =
    let p = err_from_is_err_and c.from_residual.result c.from_residual.ensures.1 in
    rw (p.1, p.2) (reads_contents c.args.book.now _ c.in_err-check.ensures (never_zero c.in_err-check.field-0.0))

pub part-b-requires : goal.part-b-requires
part-b-requires c = (laid c.args.book.now c.in_ok-check.ensures, omega arith)

pub part-formula-requires : goal.part-formula-requires
part-formula-requires c = (laid c.args.book.now c.in_ok-check.ensures, omega arith)

pub returns-in_err-bodies-clause-read : goal.returns-in_err-bodies-clause-read
returns-in_err-bodies-clause-read c =
    let p = err_from_is_err_and c.from_residual-in_err-bodies.result c.from_residual-in_err-bodies.ensures.1 in
    rw (p.1, p.2) (reads_bodies c.args.book.now _ _ (laid c.args.book.now c.in_ok-check.ensures) c.part-b.ensures c.part-formula.ensures _ c.in_err-bodies.ensures (never_zero c.in_err-bodies.field-0.0))

pub bounds-b-0 : goal.bounds-b-0
bounds-b-0 c = omega (arith, three c.args.book.now _ _ c.in_ok-check.ensures c.part-b.ensures c.part-formula.ensures c.in_ok-bodies.ensures)

pub bounds-b-1 : goal.bounds-b-1
bounds-b-1 c = omega (arith, three c.args.book.now _ _ c.in_ok-check.ensures c.part-b.ensures c.part-formula.ensures c.in_ok-bodies.ensures)

pub bounds-b-2 : goal.bounds-b-2
bounds-b-2 c = omega (arith, three c.args.book.now _ _ c.in_ok-check.ensures c.part-b.ensures c.part-formula.ensures c.in_ok-bodies.ensures)

pub returns-in_err-nodes-clause-read : goal.returns-in_err-nodes-clause-read
returns-in_err-nodes-clause-read c =
    let p = err_from_is_err_and c.from_residual-in_err-nodes.result c.from_residual-in_err-nodes.ensures.1 in
    let s = c.args.book.now in
    rw (p.1, p.2) (reads_nodes s _ _ (laid s c.in_ok-check.ensures) c.part-b.ensures c.part-formula.ensures _
    (passed s _ _ c.in_ok-check.ensures c.part-b.ensures c.part-formula.ensures c.in_ok-bodies.ensures) c.in_err-nodes.ensures (never_zero c.in_err-nodes.field-0.0))

pub one_parent-requires : goal.one_parent-requires
one_parent-requires c = whole c.args.book.now _ _ c.in_ok-check.ensures c.part-b.ensures c.part-formula.ensures c.in_ok-bodies.ensures c.in_ok-nodes.ensures

pub returns-in_err-one_parent-clause-read : goal.returns-in_err-one_parent-clause-read
returns-in_err-one_parent-clause-read c =
    let p = err_from_is_err_and c.from_residual-in_err-one_parent.result c.from_residual-in_err-one_parent.ensures.1 in
    let s = c.args.book.now in
    rw (p.1, p.2) (reads_uses s _ _ (laid s c.in_ok-check.ensures) c.part-b.ensures c.part-formula.ensures _
    (passed s _ _ c.in_ok-check.ensures c.part-b.ensures c.part-formula.ensures c.in_ok-bodies.ensures) (nodes_pass _ _ (answer 0 0) c.in_ok-nodes.ensures refl) c.in_err-one_parent.ensures)

pub returns-clause-read : goal.returns-clause-read
returns-clause-read c = used c.args.book.now _ _ c.in_ok-check.ensures c.part-b.ensures c.part-formula.ensures c.in_ok-bodies.ensures c.in_ok-nodes.ensures c.in_ok-one_parent.ensures

pub returns-clause-bodies : goal.returns-clause-bodies
returns-clause-bodies c =
    let s = c.args.book.now in
    let read = used s _ _ c.in_ok-check.ensures c.part-b.ensures c.part-formula.ensures c.in_ok-bodies.ensures c.in_ok-nodes.ensures c.in_ok-one_parent.ensures in
    let e = c.part-b.ensures in
    record {
      accepted = reads_yes s (answer 0 0) read refl;
      vars = c.from.ensures ∙ ap (λ (x : List ℕ). get_or x 0 0) e;
      locs = c.from-2.ensures ∙ ap (λ (x : List ℕ). get_or x 1 0) e;
      path = c.from-3.ensures ∙ ap (λ (x : List ℕ). get_or x 2 0) e;
      formula = c.part-formula.ensures;
    }
