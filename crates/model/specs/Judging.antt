-- From the judge's core to the judge's statement. Assumes nothing.
use Rattle.std.specs.Prelude.{◌≡◌, Bool, true, false, List, ℕ, suc, ◌-◌, ◌/◌, ◌<◌, length, get_or, Ok}
use Rattle.std.proofs.Common.{refl, inl, inr, sym, subst, arith}
use Rattle.logic.specs.declared.Profile.{Profile}
use Rattle.logic.specs.declared.Answer.{Answer}
use Rattle.logic.specs.Checks.{Checks, ◌then◌, Passes, Answers}
use Rattle.logic.specs.CheckLaws.{Yes}
use Rattle.logic.proofs.CheckLaws.{passes_of_yes, passes_then, answers_refused, answers_after, answers_other, answers_passed}
use Rattle.logic.specs.Heap.{Stack, Heap}
use Rattle.logic.specs.Reflect.{Is}
use Rattle.logic.proofs.Reflect.{false_true}
use Rattle.logic.specs.Formula.{Form}
use Rattle.logic.specs.Table.{Sound, tree}
use Rattle.logic.specs.Book.{nodes, root, book_checks, vars_of, locs_of, Reads, Accepted, Bodies}
use Rattle.logic.proofs.OpenLaws.{vars_low, locs_low, known}
use Rattle.logic.specs.Model.{model_checks, Fits, FitsBook, Verdict, Judges}
use Rattle.logic.proofs.ModelLaws.{model_stack, model_heap_is, model_refuses}
use Rattle.cells.specs.Cells.{cells, Barred}
use Rattle.judge.specs.Setting.{Ready}
use Rattle.leaves.specs.Refusals.{told}
use Rattle.packing.specs.Packing.{packed_from}
use Rattle.packing.specs.PackingLaws.{packed_stack, packed_heap}
use Rattle.packing.specs.SameTable.{same_tree, same_sound}
use Rattle.model.specs.Judged.{Judged}

-- the setting of a packed model, and what the core says in it
module _ (π : Profile) (v n p : ℕ) (f t : List ℕ) (same : (i : ℕ) → get_or t i 0 ≡ get_or f i 0) (s w u : ℕ) (j : Judged v n f s w) (un : Barred π v n (cells s) u) where
  pub ready : Ready t (record { vars = v; locs = n; path = p; stack = s; barred = u; profile = π }) (length f / 3 - 1)
  ready =
      record {
        inside = omega (arith, j.table.some, j.table.few);
        sound = let long : nodes f ≡ suc (length f / 3 - 1) = omega (arith, j.table.some) in subst (Sound v t) long (same_sound f t same v (nodes f) j.table.sound);
        few_vars = omega (arith, j.few_vars);
        few_locs = omega (arith, j.few_locs);
        listed = j.few_locs;
        stack = j.stack;
        barred = un;
      }

  pub core_fits : (r : Bool) → Is r (Fits π v n p (tree t (root f)) (cells s) (cells w)) → Is r (Fits π v n p (tree f (root f)) (cells s) (cells w))
  core_fits r q = subst (λ (F : Form). Is r (Fits π v n p F (cells s) (cells w))) (same_tree f t same (root f)) q

-- what is told of a test is the verdict
pub told_verdict : {P : Type 0} (r : Bool) → Is r P → Verdict P (told (Ok r))
told_verdict true i = inl (i.to refl, refl)
told_verdict false i = inr (λ p. false_true (i.from p), refl)

-- ---- the judge's answer, from the answers of its steps

pub model_passes : (v n : ℕ) (m : List ℕ) (a : Answer) → Answers (model_checks v n m) Yes a → a.number ≡ 0 → Passes (model_checks v n m)
model_passes v n m a q e = passes_of_yes (model_checks v n m) a (model_refuses v n m) q e

pub judges_book : (π : Profile) (s m : List ℕ) (a : Answer) → Reads s a → ¬ (a.number ≡ 0) → Judges π s m a
unfolding Reads Judges
judges_book π s m a q f = answers_refused (book_checks s) (Verdict (FitsBook π s m)) (model_checks (vars_of s) (locs_of s) m) a q f

-- f is the formula of an accepted book, and v, n and p are its bounds
module _ (π : Profile) (s f m : List ℕ) (v n p : ℕ) (q : Bodies s f v n p) where
  same_checks : model_checks v n m ≡ model_checks (vars_of s) (locs_of s) m
  same_checks = rw (q.vars, q.locs)

  pub judges_range : (a : Answer) → Answers (model_checks v n m) Yes a → ¬ (a.number ≡ 0) → Judges π s m a
  unfolding Judges Accepted
  judges_range a r w =
      answers_after (book_checks s) (model_checks (vars_of s) (locs_of s) m) (Verdict (FitsBook π s m)) a q.accepted
      (subst (λ (c : Checks). Answers c (Verdict (FitsBook π s m)) a) same_checks (answers_other (model_checks v n m) (Verdict (FitsBook π s m)) a r w))

  -- its bytes, packed
  module _ (small : (i : ℕ) → get_or m i 0 < 256) (pm : Passes (model_checks v n m)) (st w : ℕ) (es : st ≡ packed_from false m 0 v 0) (ew : w ≡ packed_from true m v n 0) where
    pub judged : Judged v n f st w
    judged =
        record {
          table = known s f v n p q;
          few_vars = vars_low s f v n p q;
          few_locs = locs_low s f v n p q;
          stack = subst (Stack v n) (sym (packed_stack m small v st es)) (model_stack v n m pm);
          heap = subst (Heap n) (sym (packed_heap m small v n w ew)) (model_heap_is v n m pm);
        }

    pub judges_verdict : (a : Answer) → Verdict (Fits π v n p (tree f (root f)) (cells st) (cells w)) a → Judges π s m a
    unfolding Judges Accepted
    judges_verdict a d =
        let same : Fits π v n p (tree f (root f)) (cells st) (cells w) ≡ FitsBook π s m = rw (packed_stack m small v st es, packed_heap m small v n w ew, q.vars, q.locs, q.path, q.formula) in
        answers_passed (book_checks s then model_checks (vars_of s) (locs_of s) m) (Verdict (FitsBook π s m)) a
        (passes_then (book_checks s) (model_checks (vars_of s) (locs_of s) m) q.accepted (subst Passes same_checks pm))
        (subst (λ (P : Type 0). Verdict P a) same d)
