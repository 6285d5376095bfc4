-- Laws of the masks of variables: those of one node, and of one node more. Assumes nothing.
use Rattle.std.specs.Prelude.{◌≡◌, Bool, true, List, ◌⊎◌, ℕ, suc, ◌+◌, ◌/◌, ◌%◌, ◌^◌, ◌<◌, ◌≤◌, eqb}
use Rattle.std.proofs.Common.{sym, subst, ◌∙◌, ap, inl, inr, ⊎_elim, eq-or-lt_of_le, arith}
use Rattle.std.specs.Int.Bits.{bit_or}
use Rattle.logic.specs.Tests.{in_part}
use Rattle.logic.specs.Reflect.{Is}
use Rattle.logic.proofs.Reflect.{false_true, is_iff, is_eq, is_or, is_self}
use Rattle.logic.specs.Table.{op_of, operand_of}
use Rattle.cells.specs.Bits.{digit_is}
use Rattle.cells.specs.Sets.{in_or, in_pow, in_nothing}
use Rattle.strays.specs.Marks.{NamesAt, NamedBelow, Marks}

-- a bit of a mask
pub is_marked : (m x : ℕ) → Is (eqb (m / 2 ^ x % 2) 1) (in_part m (suc x) ≡ true)
unfolding in_part
is_marked m x = rw (digit_is 2 m x) (is_self (in_part m (suc x)))

-- no mark at all
pub marks_none : (P : ℕ → Type 0) → ((x : ℕ) → ¬ P x) → Marks P 0
marks_none P f x = record { to = λ t. false_true (sym (in_nothing (suc x)) ∙ t); from = λ p. absurd (f x p) }

-- the mark of one variable
marks_one : (a r : ℕ) → r ≡ 2 ^ a → Marks (λ x. a ≡ x) r
marks_one a r e x =
    subst (λ (b : Bool). Is b (a ≡ x)) (sym (ap (λ (q : ℕ). in_part q (suc x)) e ∙ in_pow a x)) (is_iff (is_eq x a) sym sym)

-- the marks of two masks together
pub marks_both : (P Q R : ℕ → Type 0) (m r : ℕ) → Marks P m → Marks Q r → ((x : ℕ) → P x ⊎ Q x → R x) → ((x : ℕ) → R x → P x ⊎ Q x) → Marks R (bit_or m r)
marks_both P Q R m r p q there back x =
    subst (λ (b : Bool). Is b (R x)) (sym (in_or m r (suc x)))
    (is_iff (is_or (in_part m (suc x)) (in_part r (suc x)) (p x) (q x)) (there x) (back x))

pub marks_atom : (f : List ℕ) (k a b : ℕ) → op_of f k ≤ 4 → a ≡ 2 ^ operand_of f k 0 → b ≡ 2 ^ operand_of f k 1 → Marks (NamesAt f k) (bit_or a b)
unfolding NamesAt
marks_atom f k a b l ea eb =
    marks_both (λ x. operand_of f k 0 ≡ x) (λ x. operand_of f k 1 ≡ x) (NamesAt f k) a b (marks_one (operand_of f k 0) a ea) (marks_one (operand_of f k 1) b eb)
    (λ x q. (l, q)) (λ x q. q.1)

pub marks_join : (f : List ℕ) (k : ℕ) → ¬ (op_of f k ≤ 4) → Marks (NamesAt f k) 0
unfolding NamesAt
marks_join f k n = marks_none (NamesAt f k) (λ x q. n q.0)

-- one node more
pub marks_more : (f : List ℕ) (k m r : ℕ) → Marks (NamedBelow f k) m → Marks (NamesAt f k) r → Marks (NamedBelow f (k + 1)) (bit_or m r)
unfolding NamesAt
marks_more f k m r p q =
    marks_both (NamedBelow f k) (NamesAt f k) (NamedBelow f (k + 1)) m r p q
    (λ x. ⊎_elim (λ w. (w.0, omega (arith, w.1), w.2, w.3)) (λ w. (k, omega arith, w.0, w.1)))
    (λ x w. ⊎_elim (λ (e : w.0 ≡ k). inr (subst (λ (j : ℕ). NamesAt f j x) e (w.2, w.3))) (λ (l : w.0 < k). inl (w.0, l, w.2, w.3)) (eq-or-lt_of_le (omega (arith, w.1))))
