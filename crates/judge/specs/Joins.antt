-- The truth of a connective, from that of its children. Assumes nothing.
use Rattle.std.specs.Prelude.{◌≡◌, Bool, true, false, not, List, ℕ, zero, suc, ◌+◌, ◌^◌, ◌<◌, ◌≤◌}
use Rattle.std.proofs.Common.{◌∙◌, ap, arith}
use Rattle.logic.specs.Heap.{Map}
use Rattle.logic.specs.Formula.{Form}
use Rattle.logic.specs.Tests.{andb, orb, any, sep_at, sept_at}
use Rattle.logic.specs.Truth.{truth}
use Rattle.logic.specs.Table.{op_of, operand_of, join_of, join_from5, tree}
use Rattle.judge.specs.declared.Setting.{Setting}
use Rattle.judge.specs.Setting.{stack_of, Ready, Joined, truth_of, truth_at, first_at, second_at}
use Rattle.logic.proofs.NodeLaws.{child_operands, tree_join}

-- a node's operator is 1 to 10
pub operator_low : (f : List ℕ) (b : Setting) (k : ℕ) → Ready f b k → ¬ (op_of f k < 1)
operator_low f b k rd l = omega (arith, (rd.sound k (omega arith)).operator)

pub operator_high : (f : List ℕ) (b : Setting) (k : ℕ) → Ready f b k → ¬ (11 ≤ op_of f k)
operator_high f b k rd l = omega (arith, (rd.sound k (omega arith)).operator)

module _ (f : List ℕ) (b : Setting) (k : ℕ) (jn : Joined f b k) where
  pub lower_a : operand_of f k 0 < k
  lower_a = (child_operands b.vars f k (jn.ready.sound k (omega arith)) jn.operator).0

  pub lower_b : operand_of f k 1 < k
  lower_b = (child_operands b.vars f k (jn.ready.sound k (omega arith)) jn.operator).1

  pub lower : (side : ℕ) → side < 2 → operand_of f k side < k
  lower zero l = lower_a
  lower (suc zero) l = lower_b
  lower (suc (suc _)) l = absurd (omega (arith, l))

  pub ready_below : (x : ℕ) → x < k → Ready f b x
  ready_below x l =
      let rd = jn.ready in
      record {
        inside = omega (arith, rd.inside);
        sound = λ j h. rd.sound j (omega arith);
        few_vars = rd.few_vars;
        few_locs = rd.few_locs;
        listed = rd.listed;
        stack = rd.stack;
        barred = rd.barred;
      }

  -- by operator
  module _ (h : Map) where
    joined : truth_at f b k h ≡ truth_of b (join_of (op_of f k) (tree f (operand_of f k 0)) (tree f (operand_of f k 1))) h
    joined = ap (λ (F : Form). truth_of b F h) (tree_join b.vars f (suc k) jn.ready.sound k (omega arith) jn.operator)

    pub truth_5 : op_of f k ≡ 5 → truth_at f b k h ≡ andb (first_at f b k h) (second_at f b k h)
    unfolding truth join_of join_from5
    truth_5 e = joined ∙ rw e

    pub truth_6 : op_of f k ≡ 6 → truth_at f b k h ≡ orb (first_at f b k h) (second_at f b k h)
    unfolding truth join_of join_from5
    truth_6 e = joined ∙ rw e

    pub truth_7 : op_of f k ≡ 7 → truth_at f b k h ≡ andb (first_at f b k h) (not (second_at f b k h))
    unfolding truth join_of join_from5
    truth_7 e = joined ∙ rw e

    pub truth_8 : op_of f k ≡ 8 → truth_at f b k h ≡ not (first_at f b k h)
    unfolding truth join_of join_from5
    truth_8 e = joined ∙ rw e

    pub truth_9 : op_of f k ≡ 9 → truth_at f b k h ≡ any (2 ^ b.locs) (sep_at b.profile b.vars b.locs (stack_of b) h (first_at f b k) (second_at f b k))
    unfolding truth join_of join_from5
    truth_9 e = joined ∙ rw e

    -- the operator is none of the others
    pub truth_10 : ¬ (op_of f k ≡ 5) → ¬ (op_of f k ≡ 6) → ¬ (op_of f k ≡ 7) → ¬ (op_of f k ≡ 8) → ¬ (op_of f k ≡ 9) → truth_at f b k h ≡ any ((b.locs + 2) ^ b.locs) (sept_at b.profile b.vars b.locs (stack_of b) h (first_at f b k) (second_at f b k))
    unfolding truth join_of join_from5
    truth_10 n5 n6 n7 n8 n9 = let e : op_of f k ≡ 10 = omega (arith, (jn.ready.sound k (omega arith)).operator, jn.operator) in joined ∙ rw e

-- a test that is worked out up to where it is decided
pub and_first : (p q : Bool) → p ≡ false → false ≡ andb p q
and_first p q e = rw e

pub and_second : (r p q : Bool) → p ≡ true → r ≡ q → r ≡ andb p q
and_second r p q e o = rw e o
