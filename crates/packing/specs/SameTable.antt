-- Two tables with the same bytes have the same formulas. Assumes nothing.
use Rattle.std.specs.Prelude.{◌≡◌, List, ◌++◌, ◌-◌, length, get_or, replicate, drop}
use Rattle.std.proofs.Math.Path.{refl, fun_ext}
use Rattle.std.proofs.Common.{sym, ◌∙◌, ap, arith}
use Prim.Native.Nat.{ℕ, zero, suc, ◌+◌, ◌*◌, ◌<◌, ◌≤◌}
use Rattle.std.proofs.Math.Decide.{dec_lt}
use Rattle.std.proofs.Math.ListN.{get_or-eq_default}
use Rattle.std.proofs.lemmas.List.{get_or_append_left, get_or-append_right, get_or-drop}
use Rattle.logic.specs.Table.{op_of, operand_of, form_of, deep, tree, Sound}

module _ (f t : List ℕ) (same : (i : ℕ) → get_or t i 0 ≡ get_or f i 0) where
  same_deep : (d k : ℕ) → deep t d k ≡ deep f d k
  unfolding deep
  same_deep zero k = refl
  same_deep (suc d) k =
      rw (same (3 * k), same (3 * k + 1), same (3 * k + 2))
      (ap (form_of (op_of f k) (operand_of f k 0) (operand_of f k 1)) (fun_ext λ j. same_deep d j))

  pub same_tree : (k : ℕ) → tree t k ≡ tree f k
  unfolding tree
  same_tree k = same_deep (suc k) k

  pub same_sound : (v n : ℕ) → Sound v f n → Sound v t n
  same_sound v n s k l =
      record {
        operator = rw (same (3 * k)) (s k l).operator;
        operands = rw (same (3 * k), same (3 * k + 1), same (3 * k + 2)) (s k l).operands;
      }

zeros : (k i : ℕ) → ◌≡◌ {A = ℕ} (get_or (replicate k 0) i 0) 0
zeros zero i = refl
zeros (suc k) zero = refl
zeros (suc k) (suc i) = zeros k i

-- f in front of zeros: the place that f takes in the table is f, and the rest of the table is as it was
pub table_same : (f s : List ℕ) (k : ℕ) → s ≡ f → (i : ℕ) → get_or (s ++ drop (length f) (replicate k 0)) i 0 ≡ get_or f i 0
table_same f s k e i = rw e (go (dec_lt i (length f)))
  where
    go : Dec (i < length f) → get_or (f ++ drop (length f) (replicate k 0)) i 0 ≡ get_or f i 0
    go (yes l) = get_or_append_left f (drop (length f) (replicate k 0)) 0 i l
    go (no l) =
        let past : length f ≤ i = omega arith in
        get_or-append_right f (drop (length f) (replicate k 0)) (length f) i 0 refl past
        ∙ get_or-drop (length f) (replicate k 0) (i - length f) 0
        ∙ zeros k (length f + (i - length f))
        ∙ sym (get_or-eq_default f 0 past)
