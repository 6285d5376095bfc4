-- The judge's answer, from what its steps say. Assumes nothing.
use Rattle.std.specs.Prelude.{◌≡◌, Bool, Ok, List, ℕ, ◌+◌, ◌*◌, ◌≤◌, leb, length}
use Rattle.std.proofs.Math.Path.{refl, sym, ap}
use Rattle.std.proofs.Common.{subst, ◌∙◌, inl, inr, mul-le-mul_right}
use Rattle.std.proofs.Math.Bool.{true, false}
use native.Mathlib.Omega.{arith}
use Rattle.logic.specs.declared.Profile.{Profile}
use Rattle.logic.specs.declared.Answer.{Answer}
use Rattle.logic.specs.Numbers.{answer}
use Rattle.logic.specs.Checks.{Checks, Passes, Answers}
use Rattle.logic.specs.CheckLaws.{Yes, Refuses}
use Rattle.logic.proofs.CheckLaws.{passes_of_yes, answers_refused, answers_after, answers_other, answers_passed, refuses_upto}
use Rattle.logic.specs.Formula.{Form}
use Rattle.logic.specs.Reflect.{Is}
use Rattle.logic.proofs.Reflect.{false_true, fails}
use Rattle.logic.specs.Tests.{pick}
use Rattle.logic.specs.Table.{op_of, tree}
use Rattle.logic.specs.Book.{book_formula, most, vars_of, locs_of, nodes, root, book_checks, Reads, Accepted, Known, Bodies}
use Rattle.logic.proofs.KnownLaws.{counted}
use Rattle.logic.proofs.OpenLaws.{vars_low, locs_low, known, formula_is}
use Rattle.logic.specs.Model.{Verdict, stack_in}
use Rattle.leaves.specs.Refusals.{told}
use Rattle.cells.specs.Cells.{cells, Barred}
use Rattle.rows.specs.Meaning.{Short, Satisfies}
use Rattle.rows.specs.Table.{arrays_in, sets_in, arrays, sets, table, Encodable}
use Rattle.rows.proofs.TableHolds.{satisfies_condition}
use Rattle.rows.specs.Bounds.{most_arrays, own_arrays, own_sets}
use Rattle.rows.proofs.BoundsLaws.{arrays_add, sets_add}
use Rattle.logic.specs.Weight.{sum}
use Rattle.logic.proofs.Weight.{sum_same, sum_mul}
use Rattle.rows.specs.Assigned.{assigned, value_checks, assignment_checks, SatisfiesBook, assign_rest, Assigns}
use Rattle.encodable.specs.CountingLaws.{arrays_most}
use Rattle.arrays.specs.Unpacked.{Unpacked}
use Rattle.rowjudge.specs.declared.Setting.{Setting}
use Rattle.rowjudge.specs.declared.Told.{Told}
use Rattle.rowjudge.specs.Setting.{Ready, Within, Judged}
use Rattle.assign.specs.Judging.{Judging}
use Rattle.solutions.proofs.AssignedLaws.{assignment_long, set_low, assigned_in_range}

-- ---- how many arrays and sets there are

-- how many bytes the arrays have
pub bytes_few : (a n : ℕ) → a ≤ most_arrays → n ≤ most → a * n ≤ most_arrays * most
bytes_few a n l m = omega (arith, mul-le-mul_right n l)

module _ (v : ℕ) (f : List ℕ) (w : Known v f) where
  -- the nodes above 9 make an array each, those above 8 two sets
  pub arrays_are : (r : ℕ) → r ≡ sum (nodes f) (λ k. pick (leb (op_of f k) 9) 0 1) → 1 + r ≡ arrays (tree f (root f))
  unfolding own_arrays
  arrays_are r e = ap (λ (x : ℕ). 1 + x) (e ∙ sym (counted v f w arrays_in (λ o x y. own_arrays o) arrays_add))

  pub sets_are : (r : ℕ) → r ≡ sum (nodes f) (λ k. pick (leb (op_of f k) 8) 0 1) → 1 + 2 * r ≡ sets (tree f (root f))
  unfolding own_sets
  sets_are r e =
      let d : sum (nodes f) (λ k. pick (leb (op_of f k) 8) 0 2) ≡ r * 2 = sum_same (nodes f) (λ k. pick (leb (op_of f k) 8) 0 2) (λ k. pick (leb (op_of f k) 8) 0 1 * 2) (λ k l. two (leb (op_of f k) 8)) ∙ sum_mul (nodes f) 2 (λ k. pick (leb (op_of f k) 8) 0 1) ∙ ap (λ (x : ℕ). x * 2) (sym e) in
      omega (arith, d, counted v f w sets_in (λ o x y. own_sets o) sets_add)
    where
      two : (t : Bool) → pick t 0 2 ≡ pick t 0 1 * 2
      two true = refl
      two false = refl

-- ---- the setting of an assignment in range

module _ (q f : List ℕ) (v n a b : ℕ) (j : Judging q f v n a b) where
  pub long : length q ≡ v + a * n + b
  long = assignment_long v n a b q j.passes

  pub few_arrays : a ≤ most_arrays
  few_arrays = omega (arith, j.arrays, arrays_most v f j.table)

  module _ (π : Profile) (s u : ℕ) where
    abbrev pub setting : Setting
    setting = record { profile = π; v = v; n = n; arrays = a; sets = b; base = v + a * n; stack = s; barred = u }

    pub ready : (cs : List (List ℕ)) → cells s ≡ stack_in v q → Barred π v n (cells s) u → Unpacked v n a q cs → Ready setting q cs
    ready cs e un up =
        record {
          few_vars = j.few_vars;
          few_locs = j.few_locs;
          few_arrays = few_arrays;
          base = refl;
          long = long;
          within_range = assigned_in_range v n a b q j.passes;
          set_low = set_low v n a b q j.passes;
          unpacked = up;
          stack = e;
          barred = un;
        }

    pub within : Within setting (tree f (root f)) 0 0 1 1
    within = record { array = omega arith; set = omega arith; arrays = omega (arith, j.arrays); sets = omega (arith, j.sets) }

    -- the last row of the whole table: LONG decides, where the formula's holds
    module _ (p : ℕ) (r : Told) (t : Judged setting q (tree f (root f)) 0 0 1 1 r) where
      pub long_satisfies : r.holds ≡ true → (x : Bool) → Is x (Short ((assigned v n a q).array 0) ((assigned v n a q).set 0) p) → Is x (Satisfies v (assigned v n a q) (table π n p (tree f (root f))))
      long_satisfies e x l =
          let c = satisfies_condition π v n p (assigned v n a q) (tree f (root f)) in
          record { to = λ y. c.1 (t.holds.to e, l.to y); from = λ y. l.from (c.0 y).1 }

      pub not_satisfied : r.holds ≡ false → Is false (Satisfies v (assigned v n a q) (table π n p (tree f (root f))))
      not_satisfied e =
          let c = satisfies_condition π v n p (assigned v n a q) (tree f (root f)) in
          record { to = λ y. false_true y; from = λ y. absurd (fails r.holds t.holds e (c.0 y).0) }

-- ---- the judge's answer, from the answers of its steps

pub assigns_book : (π : Profile) (s q : List ℕ) (a : Answer) → Reads s a → ¬ (a.number ≡ 0) → Assigns π s q a
unfolding Reads Assigns
assigns_book π s q a r w = answers_refused (book_checks s) (Verdict (SatisfiesBook π s q)) (assign_rest s q) a r w

-- the answer of a test
pub verdict_told : (b : Bool) {P : Type 0} → Is b P → Verdict P (told (Ok b))
verdict_told true i = inl (i.to refl, refl)
verdict_told false i = inr (fails false i refl, refl)

-- f is the formula of an accepted book, and v, n and p are its bounds
module _ (π : Profile) (s f q : List ℕ) (v n p : ℕ) (w : Bodies s f v n p) where
  encodable_is : (t : Bool) → Is t (Encodable (tree f (root f))) → Is t (Encodable (book_formula s))
  encodable_is t i = subst (λ (F : Form). Is t (Encodable F)) (formula_is s f v n p w) i

  pub assigns_19 : (t : Bool) (a : Answer) → Is t (Encodable (tree f (root f))) → t ≡ false → a ≡ answer 19 0 → Assigns π s q a
  unfolding Assigns Accepted Answers
  assigns_19 t a i e d = answers_after (book_checks s) (assign_rest s q) (Verdict (SatisfiesBook π s q)) a w.accepted (inl (fails t (encodable_is t i) e, d))

  module _ (t : Bool) (i : Is t (Encodable (tree f (root f)))) (e : t ≡ true) (x y : ℕ) (ex : x ≡ arrays (tree f (root f))) (ey : y ≡ sets (tree f (root f))) where
    of_book : Checks
    of_book = assignment_checks (vars_of s) (locs_of s) (arrays (book_formula s)) (sets (book_formula s)) q

    same_checks : assignment_checks v n x y q ≡ of_book
    unfolding of_book
    same_checks = rw (w.vars, w.locs, ex, ey, w.formula)

    after_19 : (a : Answer) → Answers of_book (Verdict (SatisfiesBook π s q)) a → Assigns π s q a
    unfolding of_book Assigns Accepted Answers
    after_19 a r = answers_after (book_checks s) (assign_rest s q) (Verdict (SatisfiesBook π s q)) a w.accepted (inr ((encodable_is t i).to e, r))

    pub assigns_range : (a : Answer) → Answers (assignment_checks v n x y q) Yes a → ¬ (a.number ≡ 0) → Assigns π s q a
    assigns_range a r z =
        after_19 a (subst (λ (c : Checks). Answers c (Verdict (SatisfiesBook π s q)) a) same_checks (answers_other (assignment_checks v n x y q) (Verdict (SatisfiesBook π s q)) a r z))

    module _ (b : Answer) (r : Answers (assignment_checks v n x y q) Yes b) (z : b.number ≡ 0) where
      passes : Passes (assignment_checks v n x y q)
      unfolding Refuses
      passes = passes_of_yes (assignment_checks v n x y q) b (omega arith, refuses_upto (value_checks v n x q) (λ k. (omega arith, tt)) (v + x * n + y)) r z

      pub judging : Judging q f v n x y
      judging = record { table = known s f v n p w; few_vars = vars_low s f v n p w; few_locs = locs_low s f v n p w; arrays = ex; sets = ey; passes = passes }

      pub assigns_verdict : (a : Answer) → Verdict (Satisfies v (assigned v n x q) (table π n p (tree f (root f)))) a → Assigns π s q a
      assigns_verdict a d =
          let same : Satisfies v (assigned v n x q) (table π n p (tree f (root f))) ≡ SatisfiesBook π s q = rw (w.vars, w.locs, ex, w.path, w.formula) in
          after_19 a (answers_passed of_book (Verdict (SatisfiesBook π s q)) a (subst Passes same_checks passes) (subst (λ (P : Type 0). Verdict P a) same d))
