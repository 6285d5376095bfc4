-- The encoding's theorem, both ways: the satisfying assignments of a formula's table have exactly the models that fit it.
-- Assumes nothing.
use Rattle.std.specs.Prelude.{◌≡◌, ℕ}
use Rattle.std.proofs.Common.{sym, subst, ap₂, ◌∙◌, arith}
use Rattle.logic.specs.declared.Profile.{Profile}
use Rattle.logic.specs.Heap.{Map, Stack, Heap}
use Rattle.logic.specs.Formula.{Form}
use Rattle.logic.specs.Paths.{NoLongPath}
use Rattle.logic.specs.Model.{Fits}
use Rattle.logic.specs.Tests.{allocated}
use Rattle.rows.specs.Assignment.{Assignment, ValuesInRange, on, model_heap}
use Rattle.rows.specs.Meaning.{Satisfies}
use Rattle.rows.specs.Table.{table, Encodable}
use Rattle.rows.proofs.TableHolds.{satisfies_condition}
use Rattle.rows.proofs.PartSets.{not_allocated, values, values_low, values_alone, whole}
use Rattle.rows.proofs.Sound.{sound}
use Rattle.rows.proofs.Complete.{complete}

module _ (π : Profile) (v n p : ℕ) (F : Form) (c : Encodable F) where
  -- each satisfying assignment yields a model that fits: "the stack and array 0 on set 0"
  pub assignment_fits : (ν : Assignment) → ValuesInRange v n ν → Satisfies v ν (table π n p F) → Fits π v n p F ν.stack (model_heap ν)
  assignment_fits ν k q =
      let y = (satisfies_condition π v n p ν F).0 q in
      (sound π v n ν k F 0 0 1 1 c y.0, y.1)

  -- each model that fits comes from a satisfying assignment
  pub record From (s h : Map) : Type 0 where
    pub is : Assignment
    pub within_range : ValuesInRange v n is
    pub satisfies : Satisfies v is (table π n p F)
    pub stack : is.stack ≡ s
    pub heap : model_heap is ≡ h

  pub fits_assignment : (s h : Map) → Stack v n s → Heap n h → Fits π v n p F s h → From s h
  fits_assignment s h ks kh q =
      let ν : Assignment = record { stack = s; array = λ i. values h; set = λ j. allocated h } in
      let k : ValuesInRange v n ν = record {
        stack = ks;
        low = λ i ℓ. values_low n h kh ℓ;
        alone = λ i ℓ z. values_alone n h kh ℓ z;
        nil = λ j. not_allocated h 0 kh.nil;
        past = λ j ℓ l. not_allocated h ℓ (kh.past ℓ l);
      } in
      let f = complete π v n F c ν 0 0 1 1 k (omega arith) (omega arith) (rw (whole h) q.0) in
      let same : model_heap f.is ≡ h = ap₂ on (sym (f.agrees.array 0 (omega arith))) (sym (f.agrees.set 0 (omega arith))) ∙ whole h in
      record {
        is = f.is;
        within_range = f.within_range;
        satisfies = (satisfies_condition π v n p f.is F).1 (f.holds, subst (NoLongPath p) (sym same) q.1);
        stack = sym f.agrees.stack;
        heap = same;
      }
