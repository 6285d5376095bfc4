-- Operators one by one: what holds of each holds of every atom, of every connective, or of both. Assumes nothing.
use Rattle.std.specs.Prelude.{ℕ, zero, suc, ◌≤◌}
use Rattle.std.proofs.Common.{not-suc-le-zero, arith}
use Rattle.std.proofs.Math.Decide.{dec_le}

module _ (P : ℕ → Type 0) where
  pub each_atom : P 1 → P 2 → P 3 → P 4 → (o : ℕ) → 1 ≤ o → o ≤ 4 → P o
  each_atom p1 p2 p3 p4 zero l h = absurd (not-suc-le-zero l)
  each_atom p1 p2 p3 p4 (suc zero) l h = p1
  each_atom p1 p2 p3 p4 (suc (suc zero)) l h = p2
  each_atom p1 p2 p3 p4 (suc (suc (suc zero))) l h = p3
  each_atom p1 p2 p3 p4 (suc (suc (suc (suc zero)))) l h = p4
  each_atom p1 p2 p3 p4 (suc (suc (suc (suc (suc o))))) l h = absurd (omega arith)

  pub each_join : P 5 → P 6 → P 7 → P 8 → P 9 → P 10 → (o : ℕ) → 5 ≤ o → o ≤ 10 → P o
  each_join p5 p6 p7 p8 p9 p10 zero l h = absurd (omega arith)
  each_join p5 p6 p7 p8 p9 p10 (suc zero) l h = absurd (omega arith)
  each_join p5 p6 p7 p8 p9 p10 (suc (suc zero)) l h = absurd (omega arith)
  each_join p5 p6 p7 p8 p9 p10 (suc (suc (suc zero))) l h = absurd (omega arith)
  each_join p5 p6 p7 p8 p9 p10 (suc (suc (suc (suc zero)))) l h = absurd (omega arith)
  each_join p5 p6 p7 p8 p9 p10 (suc (suc (suc (suc (suc zero))))) l h = p5
  each_join p5 p6 p7 p8 p9 p10 (suc (suc (suc (suc (suc (suc zero)))))) l h = p6
  each_join p5 p6 p7 p8 p9 p10 (suc (suc (suc (suc (suc (suc (suc zero))))))) l h = p7
  each_join p5 p6 p7 p8 p9 p10 (suc (suc (suc (suc (suc (suc (suc (suc zero)))))))) l h = p8
  each_join p5 p6 p7 p8 p9 p10 (suc (suc (suc (suc (suc (suc (suc (suc (suc zero))))))))) l h = p9
  each_join p5 p6 p7 p8 p9 p10 (suc (suc (suc (suc (suc (suc (suc (suc (suc (suc zero)))))))))) l h = p10
  each_join p5 p6 p7 p8 p9 p10 (suc (suc (suc (suc (suc (suc (suc (suc (suc (suc (suc o))))))))))) l h = absurd (omega arith)

  pub each_operator : P 1 → P 2 → P 3 → P 4 → P 5 → P 6 → P 7 → P 8 → P 9 → P 10 → (o : ℕ) → 1 ≤ o → o ≤ 10 → P o
  each_operator p1 p2 p3 p4 p5 p6 p7 p8 p9 p10 o l h = go (dec_le o 4)
    where
      go : Dec (o ≤ 4) → P o
      go (yes m) = each_atom p1 p2 p3 p4 o l m
      go (no m) = each_join p5 p6 p7 p8 p9 p10 o (omega arith) h
