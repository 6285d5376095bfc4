-- Nodes by how many children they have: none, one or two. What a node adds, by that, is what a tree has at the most. Assumes
-- nothing.
use Rattle.std.specs.Prelude.{◌≡◌, refl, List, ℕ, suc, ◌+◌, ◌*◌, ◌<◌, ◌≤◌}
use Rattle.std.proofs.Math.Path.{sym, ap}
use Rattle.std.proofs.Common.{◌∙◌, arith}
use Rattle.logic.specs.Table.{op_of, kind_of, Sound, Tree}
use Rattle.logic.proofs.Operators.{each_operator}
use Rattle.logic.specs.Weight.{sum, kid, kids}
use Rattle.logic.proofs.Weight.{sum_add, sum_mul, sum_one, sum_le, sum_same, children}
use Rattle.logic.specs.Children.{none, one, two}

record Arity (o : ℕ) : Type 0 where
  some : none o + one o + two o ≡ 1
  kids : kid o 0 1 + kid o 1 1 ≡ one o + two o * 2

arity : (o : ℕ) → 1 ≤ o → o ≤ 10 → Arity o
unfolding kind_of
arity =
    each_operator Arity
    (record { some = refl; kids = refl }) (record { some = refl; kids = refl }) (record { some = refl; kids = refl }) (record { some = refl; kids = refl })
    (record { some = refl; kids = refl }) (record { some = refl; kids = refl }) (record { some = refl; kids = refl }) (record { some = refl; kids = refl })
    (record { some = refl; kids = refl }) (record { some = refl; kids = refl })

module _ (v : ℕ) (f : List ℕ) (n : ℕ) (ok : Sound v f n) (t : Tree f n) (m : ℕ) (e : n ≡ suc m) where
  at : (k : ℕ) → k < n → Arity (op_of f k)
  at k l = arity (op_of f k) (ok k l).operator.0 (ok k l).operator.1

  pub leaves : ℕ
  leaves = sum n (λ k. none (op_of f k))

  pub ones : ℕ
  ones = sum n (λ k. one (op_of f k))

  pub twos : ℕ
  twos = sum n (λ k. two (op_of f k))

  pub nodes_counted : leaves + ones + twos ≡ n
  unfolding leaves ones twos
  nodes_counted =
      ap (λ (x : ℕ). x + sum n (λ k. two (op_of f k))) (sym (sum_add n (λ k. none (op_of f k)) (λ k. one (op_of f k))))
      ∙ sym (sum_add n (λ k. none (op_of f k) + one (op_of f k)) (λ k. two (op_of f k)))
      ∙ sum_same n (λ k. none (op_of f k) + one (op_of f k) + two (op_of f k)) (λ k. 1) (λ k l. (at k l).some)
      ∙ sum_one n

  pub children_counted : ones + twos * 2 ≡ m
  unfolding ones twos
  children_counted =
      ap (λ (x : ℕ). sum n (λ k. one (op_of f k)) + x) (sym (sum_mul n 2 (λ k. two (op_of f k))))
      ∙ sym (sum_add n (λ k. one (op_of f k)) (λ k. two (op_of f k) * 2))
      ∙ sum_same n (λ k. one (op_of f k) + two (op_of f k) * 2) (kids f (λ j. 1)) (λ k l. sym (at k l).kids)
      ∙ children v f n ok t m e

  -- a node without a child adds at most a, one with one at most b, one with two at most c
  pub at_most : (w : ℕ → ℕ) (a b c : ℕ) → ((k : ℕ) → k < n → w k ≤ none (op_of f k) * a + one (op_of f k) * b + two (op_of f k) * c)
      → sum n w ≤ leaves * a + ones * b + twos * c
  unfolding leaves ones twos
  at_most w a b c h =
      let less = sum_le n w (λ k. none (op_of f k) * a + one (op_of f k) * b + two (op_of f k) * c) h in
      let add = sum_add n (λ k. none (op_of f k) * a + one (op_of f k) * b) (λ k. two (op_of f k) * c) in
      let add' = sum_add n (λ k. none (op_of f k) * a) (λ k. one (op_of f k) * b) in
      let x = sum_mul n a (λ k. none (op_of f k)) in
      let y = sum_mul n b (λ k. one (op_of f k)) in
      let z = sum_mul n c (λ k. two (op_of f k)) in
      omega (arith, less, add, add', x, y, z)
