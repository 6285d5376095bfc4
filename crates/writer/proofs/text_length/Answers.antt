-- `writer::text_length` meets its contract. Assumes nothing.
use mathlib.Core.Path.{◌≡◌, sym, ap, ◌∙◌, ap₂}
use Prim.Native.Nat.{ℕ, ◌+◌, ◌/◌}
use lib.ListN.{length}
use native.Mathlib.Omega.{arith}
use Rattle.logic.specs.Weight.{sum, own_at}
use Rattle.logic.proofs.Weight.{sum_start, sum_more}
use Rattle.logic.proofs.KnownLaws.{operator_some, counted}
use Rattle.ownwords.specs.OwnWords.{text, own_byte_count}
use Rattle.ownwords.specs.OwnWordLaws.{bytes_add}
use Rattle.writer.proofs.text_length.Goals as goal

pub loop-k-init : goal.loop-k-init
loop-k-init c = (omega arith, sym (sum_start (own_at own_byte_count c.args.f.now)))

pub own_bytes-bytes-requires : goal.own_bytes-bytes-requires
own_bytes-bytes-requires c = operator_some c.requires.0 c.args.f.now c.requires.1 c.loop-k.k 0 0 (omega arith)

pub overflow_add-bytes : goal.overflow_add-bytes
overflow_add-bytes c = omega (arith, c.own_bytes-bytes.ensures.1, c.requires.1.few)

pub loop-k-preserved : goal.loop-k-preserved
loop-k-preserved c =
    let l = c.loop-k in
    let f = c.args.f.now in
    (omega (arith, c.own_bytes-bytes.ensures.1), ap₂ ◌+◌ l.invariant.1 c.own_bytes-bytes.ensures.0 ∙ sym (sum_more (own_at own_byte_count f) l.k))

pub returns : goal.returns
returns c =
    let l = c.loop-k in
    let f = c.args.f.now in
    let e : l.k ≡ length f / 3 = omega arith in
    l.invariant.1 ∙ ap (λ (k : ℕ). sum k (own_at own_byte_count f)) e ∙ sym (counted c.requires.0 f c.requires.1 (λ F. length (text F)) own_byte_count bytes_add)
