-- `import::put_book` meets its contract. Assumes nothing.
use mathlib.Core.Path.{◌≡◌, sym, ap, ◌∙◌}
use mathlib.Core.List.{List, ◌++◌}
use Prim.Native.Nat.{ℕ, ◌*◌, ◌+◌, ◌-◌}
use native.Mathlib.Omega.{arith}
use lib.Seq.{paste}
use lib.ListN.{take, drop}
use Rattle.std.proofs.Common.{length, length-take-le, take-take}
use Rattle.std.proofs.lemmas.Slice.{put_mid-paste}
use Rattle.logic.specs.Book.{head_of}
use Rattle.import.specs.WholeLaws.{head_nodes}
use Rattle.import.proofs.put_book.Goals as goal

pub returns : goal.returns
returns c =
    let d = c.args.draft.now in
    let k = 3 * d.nodes.count in
    let o = c.args.out.now in
    let t = take k d.nodes.table in
    let q : c.copy_from_slice.new.self ≡ t = c.copy_from_slice.ensures.after in
    let l : k ≡ length t = sym (length-take-le k d.nodes.table (omega (arith, c.requires.0.ready.long, c.requires.0.ready.few))) in
    put_mid-paste 14 (14 + k - 14) c.put_head.new.out c.copy_from_slice.new.self t k q (omega arith) l
    ∙ ap (λ (x : List ℕ). paste x 14 t k) c.put_head.ensures
    ∙ head_nodes 2 d.names.count c.args.n c.args.p k t o k
    ∙ ap (λ (x : List ℕ). head_of 2 d.names.count c.args.n c.args.p k ++ (x ++ drop (14 + k) o)) (take-take k k d.nodes.table (omega arith))
