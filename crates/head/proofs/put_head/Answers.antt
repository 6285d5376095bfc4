-- `head::put_head` meets its contract. Assumes nothing.
use Rattle.std.specs.Prelude.{◌≡◌, List, [], ◌∷◌, ◌++◌, ℕ, ◌<◌, ◌/◌, ◌%◌, drop, get_or}
use Rattle.std.specs.Int.{w16, to_le_bytes}
use Rattle.std.proofs.Common.{ap, arith}
use Rattle.logic.specs.Book.{head_of}
use Rattle.head.proofs.put_head.Goals as goal

-- the two bytes of the size are its low and its high byte
with_size : (kind v n p size : ℕ) (xs s : List ℕ) → size < 65536 → s ≡ to_le_bytes w16 size
    → xs ≡ 2 ∷ 1 ∷ 11 ∷ 0 ∷ 3 ∷ 0 ∷ kind ∷ 14 ∷ 0 ∷ get_or s 0 0 ∷ get_or s 1 0 ∷ v ∷ n ∷ p ∷ [] → xs ≡ head_of kind v n p size
with_size kind v n p size xs s h e d =
    let high : size / 256 % 256 ≡ size / 256 = omega arith in
    rw (d, e, high)

pub returns : goal.returns
returns c = ap (λ (h : List ℕ). h ++ drop 14 c.args.out.now) (with_size _ _ _ _ _ _ _ (omega arith) c.to_le_bytes.ensures c.copy_from_slice.ensures.after)
