-- What is worked out of a book and a model is what document 01 says of them. Assumes nothing.
use Rattle.std.specs.Prelude.{Bool, List, ◌⊎◌, ◌≡◌, ℕ, zero, suc, ◌+◌, ◌<◌, ◌≤◌, ◌%◌, eqb, leb, length, get_or}
use Rattle.std.proofs.Common.{arith}
use Rattle.logic.specs.Checks.{Checks, ◌then◌, upto, Passes}
use Rattle.logic.proofs.CheckLaws.{passes_none, passes_more, passes_at, passes_then, then_passes}
use Rattle.logic.specs.Tests.{andb, orb, all}
use Rattle.logic.specs.Reflect.{Is}
use Rattle.logic.proofs.Reflect.{is_iff, is_eq, is_le, is_and, is_or, is_all, is_any}
use Rattle.logic.specs.Table.{Operand, kind_of, op_of, operand_of, uses}
use Rattle.logic.specs.Book.{most, kind, offset, size, stretch, vars_of, formula_of, nodes, root, ContentsOk, BoundsOk, FormulaOk, LaidOut, contents_checks, body_checks, node_checks, use_checks, table_checks, Accepted}
use Rattle.logic.proofs.BookLaws.{laid_passes, passes_laid}
use Rattle.logic.specs.Model.{byte_checks, model_checks}
use Rattle.logic.specs.Strays.{NamedByAtom, name_checks}
use Rattle.logic.specs.Computed.{laid_out, bounds_ok, formula_ok, operand_ok, node_ok, table_ok, named_by_atom, all_named, accepted, model_ok}

is_contents : (s : List ℕ) → Is (andb (eqb (get_or s 0 0) 2) (andb (andb (eqb (kind s 0) 1) (eqb (kind s 1) 2)) (andb (eqb (offset s 0) 11) (andb (eqb (offset s 1) (offset s 0 + size s 0)) (eqb (offset s 1 + size s 1) (length s)))))) (ContentsOk s)
is_contents s =
    is_iff
    (is_and _ _ (is_eq (get_or s 0 0) 2)
    (is_and _ _ (is_and _ _ (is_eq (kind s 0) 1) (is_eq (kind s 1) 2))
    (is_and _ _ (is_eq (offset s 0) 11) (is_and _ _ (is_eq (offset s 1) (offset s 0 + size s 0)) (is_eq (offset s 1 + size s 1) (length s))))))
    (λ q. record { entries = q.0; bounds_kind = q.1.0.0; formula_kind = q.1.0.1; first = q.1.1.0; second = q.1.1.1.0; ends = q.1.1.1.1 })
    (λ q. (q.entries, ((q.bounds_kind, q.formula_kind), (q.first, (q.second, q.ends)))))

pub is_laid_out : (s : List ℕ) → Is (laid_out s) (LaidOut s)
unfolding laid_out
is_laid_out s = is_and _ _ (is_and _ _ (is_le 11 (length s)) (is_le (length s) 206)) (is_contents s)

is_bounds : (b : List ℕ) → Is (bounds_ok b) (BoundsOk b)
unfolding bounds_ok
is_bounds b =
    is_iff (is_and _ _ (is_eq (length b) 3) (is_and _ _ (is_le (get_or b 0 0) most) (is_and _ _ (is_le (get_or b 1 0) most) (is_le (get_or b 2 0) most))))
    (λ q. record { three = q.0; vars = q.1.0; locs = q.1.1.0; path = q.1.1.1 })
    (λ q. (q.three, (q.vars, (q.locs, q.path))))

is_formula : (f : List ℕ) → Is (formula_ok f) (FormulaOk f)
unfolding formula_ok
is_formula f = is_and _ _ (is_le 1 (length f)) (is_eq (length f % 3) 0)

is_operand : (v k t x : ℕ) → Is (operand_ok v k t x) (Operand v k t x)
unfolding operand_ok Operand
is_operand v k zero x = is_eq x 0
is_operand v k (suc zero) x = is_le x v
is_operand v k (suc (suc t)) x = is_le (suc x) k

is_upto : (f : ℕ → Checks) (t : ℕ → Bool) → ((k : ℕ) → Is (t k) (Passes (f k))) → (n : ℕ) → Is (all n t) (Passes (upto f n))
is_upto f t i n = is_iff (is_all t (λ k. Passes (f k)) n (λ k l. i k)) (up n) (λ p. passes_at f n p)
  where
    up : (n : ℕ) → ((k : ℕ) → k < n → Passes (f k)) → Passes (upto f n)
    up zero q = passes_none f
    up (suc n) q = passes_more f n (up n (λ k l. q k (omega arith))) (q n (omega arith))

is_node : (v : ℕ) (f : List ℕ) (k : ℕ) → Is (node_ok v f k) (Passes (node_checks v f k))
unfolding node_ok Passes
is_node v f k =
    is_iff
    (is_and _ _ (is_and _ _ (is_le 1 (op_of f k)) (is_le (op_of f k) 10))
    (is_and _ _ (is_operand v k (kind_of (op_of f k) 0) (operand_of f k 0)) (is_operand v k (kind_of (op_of f k) 1) (operand_of f k 1))))
    (λ q. (q.0, (q.1, tt))) (λ q. (q.0, q.1.0))

is_then : (c d : Checks) (x y : Bool) → Is x (Passes c) → Is y (Passes d) → Is (andb x y) (Passes (c then d))
is_then c d x y i j = is_iff (is_and x y i j) (λ q. passes_then c d q.0 q.1) (then_passes c d)

is_table : (v : ℕ) (f : List ℕ) → Is (table_ok v f) (Passes (table_checks v f))
unfolding table_ok Passes
is_table v f =
    is_then (upto (node_checks v f) (nodes f)) (upto (use_checks f) (root f)) _ _
    (is_upto (node_checks v f) (node_ok v f) (is_node v f) (nodes f))
    (is_upto (use_checks f) (λ k. eqb (uses f (nodes f) k) 1) (λ k. is_iff (is_eq (uses f (nodes f) k) 1) (λ q. (q, tt)) (λ q. q.0)) (root f))

is_named : (f : List ℕ) (x : ℕ) → Is (named_by_atom f x) (NamedByAtom f x)
unfolding named_by_atom
is_named f x =
    is_iff
    (is_any (λ k. andb (leb (op_of f k) 4) (orb (eqb (operand_of f k 0) x) (eqb (operand_of f k 1) x)))
    (λ k. (op_of f k ≤ 4) × ((operand_of f k 0 ≡ x) ⊎ (operand_of f k 1 ≡ x))) (nodes f)
    (λ k l. is_and _ _ (is_le (op_of f k) 4) (is_or _ _ (is_eq (operand_of f k 0) x) (is_eq (operand_of f k 1) x))))
    (λ q. (q.0, q.1, q.2.0, q.2.1)) (λ q. (q.0, q.1, (q.2, q.3)))

pub is_all_named : (v : ℕ) (f : List ℕ) → Is (all_named v f) (Passes (upto (name_checks f) v))
unfolding all_named Passes
is_all_named v f = is_upto (name_checks f) (λ i. named_by_atom f (suc i)) (λ i. is_iff (is_named f (suc i)) (λ q. (q, tt)) (λ q. q.0)) v

pub is_accepted : (s : List ℕ) → Is (accepted s) (Accepted s)
unfolding accepted Accepted Passes
is_accepted s =
    is_then (contents_checks s) (body_checks (stretch s 0) (formula_of s) then table_checks (vars_of s) (formula_of s)) _ _
    (is_iff (is_laid_out s) (laid_passes s) (passes_laid s))
    (is_then (body_checks (stretch s 0) (formula_of s)) (table_checks (vars_of s) (formula_of s)) _ _
    (is_iff (is_and _ _ (is_bounds (stretch s 0)) (is_formula (formula_of s))) (λ q. (q.0, (q.1, tt))) (λ q. (q.0, q.1.0)))
    (is_table (vars_of s) (formula_of s)))

pub is_model : (v n : ℕ) (m : List ℕ) → Is (model_ok v n m) (Passes (model_checks v n m))
unfolding model_ok Passes
is_model v n m =
    is_and _ _ (is_eq (length m) (v + n))
    (is_upto (byte_checks v n m) (λ i. orb (leb (get_or m i 0) n) (andb (leb v i) (eqb (get_or m i 0) 255)))
    (λ i. is_iff (is_or _ _ (is_le (get_or m i 0) n) (is_and _ _ (is_le v i) (is_eq (get_or m i 0) 255))) (λ q. (q, tt)) (λ q. q.0)) (v + n))
