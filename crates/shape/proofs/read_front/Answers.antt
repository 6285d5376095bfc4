-- What a read puts behind the bytes so far goes on from them: `read_front` consumes what it puts at the front.
use Rattle.std.proofs.Common.{◌≡◌, ℕ, ◌+◌, ◌-◌, ◌≤◌, List, ◌++◌, rules, length, take, sym, ap, ◌∙◌, subst, length-take-le}
use Rattle.std.proofs.lemmas.List.{take-append-le}
use Rattle.std.proofs.Math.Seq.{take-append-add}
use Rattle.std.specs.Io.KnownBytes.{Consumes}
use Rattle.std.proofs.KnownBytes.{Consumes-trans}
use borrow.Rule.Slice.PartMut.{put_mid, post_of}
use Rattle.shape.proofs.read_front.Goals as goal

take_put : (a k n : ℕ) (xs ys : List ℕ) → a ≤ length xs → n ≤ length ys → take (a + n) (put_mid a k xs ys) ≡ take a xs ++ take n ys
take_put a k n xs ys within fits =
    let behind = ys ++ post_of a k xs in
    ap (λ m. take (m + n) (take a xs ++ behind)) (sym (length-take-le a xs within)) ∙ take-append-add (take a xs) behind n
    ∙ ap (λ l. take a xs ++ l) (take-append-le n ys (post_of a k xs) fits)

pub loop-count-preserved : goal.loop-count-preserved
loop-count-preserved g c =
    let from = c.loop-count.count in
    let joined = take_put from (length c.loop-count.input - from) c.in_ok-more.more c.loop-count.input c.read.new.buf c.loop-count.invariant.0 c.in_ok-more.ensures.bound.0 in
    (search rules, subst (Consumes _ _) (sym joined) (Consumes-trans _ _ _ _ _ c.loop-count.invariant.1 c.in_ok-more.ensures.bytes.0))
