-- What a setting gives of its arrays and sets. Assumes nothing.
use Rattle.std.specs.Prelude.{◌≡◌, List, ℕ, ◌+◌, ◌<◌, ◌≤◌, length, get_or}
use Rattle.std.proofs.Common.{sym, ap, ap₂, subst, ◌∙◌, arith}
use Rattle.logic.proofs.Agree.{heap_more}
use Rattle.logic.specs.Heap.{Map, Heap}
use Rattle.logic.specs.Tests.{in_part}
use Rattle.cells.specs.Cells.{most, cells}
use Rattle.rows.specs.Assignment.{on}
use Rattle.rows.proofs.OnSet.{on_heap}
use Rattle.arrays.specs.Unpacked.{values_in}
use Rattle.rowjudge.specs.declared.Setting.{Setting}
use Rattle.rowjudge.specs.Setting.{given, Ready}

module _ (g : Setting) (q : List ℕ) (arrays : List (List ℕ)) (r : Ready g q arrays) where
  pub set_inside : (s : ℕ) → s < g.sets → g.base + s < length q
  set_inside s l = omega (arith, r.long)

  pub values_low : (a : ℕ) → a < g.arrays → (ℓ : ℕ) → values_in arrays a ℓ ≤ g.n
  values_low a l ℓ = subst (λ (f : Map). f ℓ ≤ g.n) (sym (r.unpacked.values a l)) (r.within_range.low a ℓ)

  -- the byte of a set is the set
  pub set_is : (s m : ℕ) → m ≡ get_or q (g.base + s) 0 → in_part m ≡ (given g q).set s
  set_is s m e = ap in_part (e ∙ ap (λ (k : ℕ). get_or q (k + s) 0) r.base)

  pub heap_is : (a s m w : ℕ) → a < g.arrays → m ≡ get_or q (g.base + s) 0 → cells w ≡ on (values_in arrays a) (in_part m) → cells w ≡ on ((given g q).array a) ((given g q).set s)
  heap_is a s m w l e d = d ∙ ap₂ on (r.unpacked.values a l) (set_is s m e)

  pub on_low : (a s w : ℕ) → cells w ≡ on ((given g q).array a) ((given g q).set s) → Heap g.n (cells w)
  on_low a s w e = subst (Heap g.n) (sym e) (on_heap g.v g.n (given g q) a s r.within_range)

  pub on_few : (a s w : ℕ) → cells w ≡ on ((given g q).array a) ((given g q).set s) → Heap most (cells w)
  on_few a s w e = heap_more g.n most (cells w) (omega (arith, r.few_locs)) (on_low a s w e)

  pub location_low : (x y : ℕ) → y ≡ cells g.stack x → y ≤ most
  location_low x y e =
      let f : y ≡ (given g q).stack x = e ∙ ap (λ (s : Map). s x) r.stack in
      omega (arith, r.few_locs, r.within_range.stack.low x)

  pub location_is : (x y : ℕ) → y ≡ cells g.stack x → y ≡ (given g q).stack x
  location_is x y e = e ∙ ap (λ (s : Map). s x) r.stack
