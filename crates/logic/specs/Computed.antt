-- What can be worked out of a book and a model: whether the book is accepted, the model in range, and whether it fits. Assumes
-- nothing: these are definitions.
use Rattle.std.specs.Prelude.{Bool, List, ℕ, zero, suc, ◌+◌, ◌%◌, eqb, leb, length, get_or}
use Rattle.logic.specs.declared.Profile.{Profile}
use Rattle.logic.specs.Formula.{Form}
use Rattle.logic.specs.Heap.{Map}
use Rattle.logic.specs.Tests.{andb, orb, all, any, short}
use Rattle.logic.specs.Truth.{truth}
use Rattle.logic.specs.Table.{op_of, operand_of, kind_of, uses}
use Rattle.logic.specs.Book.{most, kind, offset, size, stretch, vars_of, locs_of, path_of, formula_of, nodes, root, book_formula}
use Rattle.logic.specs.Model.{stack_in, heap_in}

unfoldable pub laid_out : List ℕ → Bool
laid_out s =
    andb (andb (leb 11 (length s)) (leb (length s) 206))
    (andb (eqb (get_or s 0 0) 2)
    (andb (andb (eqb (kind s 0) 1) (eqb (kind s 1) 2))
    (andb (eqb (offset s 0) 11) (andb (eqb (offset s 1) (offset s 0 + size s 0)) (eqb (offset s 1 + size s 1) (length s))))))

unfoldable pub bounds_ok : List ℕ → Bool
bounds_ok b = andb (eqb (length b) 3) (andb (leb (get_or b 0 0) most) (andb (leb (get_or b 1 0) most) (leb (get_or b 2 0) most)))

unfoldable pub formula_ok : List ℕ → Bool
formula_ok f = andb (leb 1 (length f)) (eqb (length f % 3) 0)

unfoldable pub operand_ok : ℕ → ℕ → ℕ → ℕ → Bool
operand_ok v k zero x = eqb x 0
operand_ok v k (suc zero) x = leb x v
operand_ok v k (suc (suc _)) x = leb (suc x) k

unfoldable pub node_ok : ℕ → List ℕ → ℕ → Bool
node_ok v f k =
    andb (andb (leb 1 (op_of f k)) (leb (op_of f k) 10))
    (andb (operand_ok v k (kind_of (op_of f k) 0) (operand_of f k 0)) (operand_ok v k (kind_of (op_of f k) 1) (operand_of f k 1)))

unfoldable pub table_ok : ℕ → List ℕ → Bool
table_ok v f = andb (all (nodes f) (node_ok v f)) (all (root f) (λ k. eqb (uses f (nodes f) k) 1))

unfoldable pub accepted : List ℕ → Bool
accepted s = andb (laid_out s) (andb (andb (bounds_ok (stretch s 0)) (formula_ok (formula_of s))) (table_ok (vars_of s) (formula_of s)))

unfoldable pub model_ok : ℕ → ℕ → List ℕ → Bool
model_ok v n m = andb (eqb (length m) (v + n)) (all (v + n) (λ i. orb (leb (get_or m i 0) n) (andb (leb v i) (eqb (get_or m i 0) 255))))

unfoldable pub named_by_atom : List ℕ → ℕ → Bool
named_by_atom f x = any (nodes f) (λ k. andb (leb (op_of f k) 4) (orb (eqb (operand_of f k 0) x) (eqb (operand_of f k 1) x)))

unfoldable pub all_named : ℕ → List ℕ → Bool
all_named v f = all v (λ i. named_by_atom f (suc i))

-- Fits, worked out
abbrev pub fits : Profile → ℕ → ℕ → ℕ → Form → Map → Map → Bool
fits π v n p F s h = let r = short n p h in andb (truth π v n F s h) r

unfoldable pub fits_book : Profile → List ℕ → List ℕ → Bool
fits_book π s m =
    fits π (vars_of s) (locs_of s) (path_of s) (book_formula s) (stack_in (vars_of s) m) (heap_in (vars_of s) (locs_of s) m)
