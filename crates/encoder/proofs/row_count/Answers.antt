-- `encoder::row_count` meets its contract. Assumes nothing.
use Rattle.std.proofs.Common.{◌≡◌, ℕ, ◌+◌, ◌/◌, length, ap, sym, ◌∙◌, ap₂, zero-le, arith}
use Rattle.logic.specs.Table.{op_of}
use Rattle.rows.specs.Bounds.{own_row_count}
use Rattle.logic.specs.Weight.{sum}
use Rattle.logic.proofs.Weight.{sum_start, sum_more}
use Rattle.encoder.specs.EncodeLaws.{rows_are}
use Rattle.encoder.proofs.row_count.Goals as goal

pub loop-k-init : goal.loop-k-init
loop-k-init c = let s = c.args.source.now in (zero-le, sym (sum_start (λ j. own_row_count s.profile s.n (op_of s.formula.now j))))

pub loop-k-preserved : goal.loop-k-preserved
loop-k-preserved c =
    let l = c.loop-k in
    let s = c.args.source.now in (
      omega (arith, c.own_rows-r.ensures.1),
      ap₂ ◌+◌ l.invariant.1 c.own_rows-r.ensures.0 ∙ sym (sum_more (λ j. own_row_count s.profile s.n (op_of s.formula.now j)) l.k),
    )

pub returns : goal.returns
returns c =
    let s = c.args.source.now in
    let z = c.requires in
    let l = c.loop-k in
    let e : l.k ≡ length s.formula.now / 3 = omega arith in
    rows_are s.profile z.0 s.formula.now z.1 s.n l.r (l.invariant.1 ∙ ap (λ (k : ℕ). sum k (λ j. own_row_count s.profile s.n (op_of s.formula.now j))) e)
