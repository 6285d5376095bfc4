-- When a byte of a model is in range, by one comparison, and when all are, by the two numbers that they are packed into. Assumes
-- nothing.
use Rattle.std.specs.Prelude.{◌≡◌, true, false, List, leb, get_or}
use Rattle.std.proofs.Common.{◌∙◌, subst, inl, inr, ⊎_elim, zero-add, arith, lt-ltb, ne_eqb}
use Prim.Native.Nat.{ℕ, zero, suc, ◌+◌, ◌-◌, ◌%◌, ◌<◌, ◌≤◌}
use Rattle.std.proofs.Math.Decide.{dec_lt, ℕ_discrete}
use Rattle.logic.specs.Checks.{upto, Passes}
use Rattle.logic.proofs.CheckLaws.{passes_none, passes_more}
use Rattle.logic.specs.Reflect.{Is}
use Rattle.logic.proofs.Reflect.{is_iff, is_le}
use Rattle.logic.specs.Book.{most}
use Rattle.logic.specs.Model.{digit_of, InRange, ByteOk, byte_checks}
use Rattle.cells.specs.Cells.{cells}
use Rattle.packing.specs.Packing.{AtMost}
use Rattle.packing.specs.PackingLaws.{packed_cells}
use Rattle.ranges.specs.Packs.{Holding}

-- a cell's byte is in range if its digit is
pub is_cell_byte : (v n i x r : ℕ) → v ≤ i → n ≤ most → x < 256 → r ≡ x → Is (leb ((r + 1) % 256) (n + 1)) (InRange v n i x)
is_cell_byte v n i x r a l h e =
    is_iff (is_le ((r + 1) % 256) (n + 1)) (λ q. go q (ℕ_discrete x 255))
    (⊎_elim (λ q. omega (arith, q)) (λ q. omega (arith, q.1)))
  where
    go : (r + 1) % 256 ≤ n + 1 → Dec (x ≡ 255) → InRange v n i x
    go q (yes z) = inr (a, z)
    go q (no z) = inl (omega arith)

-- a variable's byte is in range if it is a location
pub is_location : (v n i x r : ℕ) → i < v → r ≡ x → Is (leb r n) (InRange v n i x)
is_location v n i x r a e =
    is_iff (is_le r n) (λ q. inl (omega arith)) (⊎_elim (λ q. omega (arith, q)) (λ q. absurd (omega (arith, q.0))))

cell_ok : (v n i x : ℕ) → v ≤ i → digit_of x ≤ n + 1 → InRange v n i x
cell_ok v n i x a l = go (ℕ_discrete x 255)
  where
    go : Dec (x ≡ 255) → InRange v n i x
    go (yes e) = inr (a, e)
    go (no e) = inl (omega (arith, rw (ne_eqb x 255 e) at l))

-- where each location and each digit that is packed is small enough, each byte is in range
module _ (v n : ℕ) (m : List ℕ) (small : (i : ℕ) → get_or m i 0 < 256) (s w : ℕ) (q : Holding v n m s w) (ls : AtMost s n) (lw : AtMost w (n + 1)) where
  byte_ok : (i : ℕ) → i < v + n → Dec (i < v) → ByteOk v n m i
  byte_ok i l (yes h) =
      let at : cells s (suc i) ≡ get_or m i 0 = packed_cells false m small 0 v s q.stack i ∙ rw (lt-ltb i v h, zero-add) in
      inl (omega (arith, ls (suc i)))
  byte_ok i l (no h) =
      let back : v + (i - v) ≡ i = omega arith in
      let at : cells w (suc (i - v)) ≡ digit_of (get_or m i 0) = packed_cells true m small v n w q.heap (i - v) ∙ rw (lt-ltb (i - v) n (omega arith), back) in
      cell_ok v n i (get_or m i 0) (omega arith) (subst (λ (d : ℕ). d ≤ n + 1) at (lw (suc (i - v))))

  first_ok : (k : ℕ) → k ≤ v + n → Passes (upto (byte_checks v n m) k)
  unfolding Passes
  first_ok zero l = passes_none (byte_checks v n m)
  first_ok (suc k) l = passes_more (byte_checks v n m) k (first_ok k (omega arith)) (byte_ok k l (dec_lt k v), tt)

  pub all_ok : Passes (upto (byte_checks v n m) (v + n))
  all_ok = first_ok (v + n) (omega arith)
