-- What an opened book gives to the call that opened it. Assumes nothing.
use Rattle.std.specs.Prelude.{◌≡◌, List, ℕ, ◌≤◌, length}
use Rattle.std.proofs.Common.{sym, ap, subst, arith}
use Rattle.logic.specs.declared.Answer.{Answer}
use Rattle.logic.specs.Numbers.{yes_number}
use Rattle.logic.specs.Table.{tree}
use Rattle.logic.specs.Book.{most, stretch, formula_of, root, book_formula, Reads, Opens, Whole, Known, Bodies, Given}
use Rattle.logic.proofs.BookLaws.{reads_yes, accepted_whole}

-- an accepted book's bodies can be taken
pub read_given : (s : List ℕ) (a : Answer) (e : ℕ) → Reads s a → a.number ≡ yes_number → e ≤ 1 → Given s e
read_given s a e q z l = ((accepted_whole s (reads_yes s a q z)).laid, l)

pub read_three : (s : List ℕ) (a : Answer) (b : List ℕ) → Reads s a → a.number ≡ yes_number → b ≡ stretch s 0 → length b ≡ 3
read_three s a b q z e = subst (λ (x : List ℕ). length x ≡ 3) (sym e) (accepted_whole s (reads_yes s a q z)).bounds.three

pub opened : (s f : List ℕ) (a : Answer) (v n p : ℕ) → Opens s a v n p → a.number ≡ yes_number → f ≡ formula_of s → Bodies s f v n p
opened s f a v n p q z e =
    let b = q.bounds z in
    record { accepted = reads_yes s a q.answer z; vars = b.0; locs = b.1; path = b.2; formula = e }

module _ (s f : List ℕ) (v n p : ℕ) (q : Bodies s f v n p) where
  pub whole : Whole s
  whole = accepted_whole s q.accepted

  pub vars_low : v ≤ most
  vars_low = omega (arith, q.vars, whole.bounds.vars)

  pub locs_low : n ≤ most
  locs_low = omega (arith, q.locs, whole.bounds.locs)

  pub path_low : p ≤ most
  path_low = omega (arith, q.path, whole.bounds.path)

  pub known : Known v f
  known =
      let w = whole in
      rw (q.formula, q.vars) (record { some = w.some; few = w.few; bytes = w.bytes; sound = w.sound; tree = w.tree })

  pub formula_is : tree f (root f) ≡ book_formula s
  formula_is = ap (λ (x : List ℕ). tree x (root x)) q.formula
