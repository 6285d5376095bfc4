-- From the hunt in an accepted book's formula to the search's answer and output. Assumes nothing.
use Rattle.std.specs.Prelude.{◌≡◌, List, ◌++◌, ℕ, suc, ◌+◌, ◌-◌, ◌<◌, ◌≤◌, length, get_or, drop}
use Rattle.std.proofs.Math.Path.{subst}
use Rattle.std.proofs.Common.{refl, ◌∙◌, ap, ap₂}
use native.Mathlib.Omega.{arith}
use Rattle.logic.specs.declared.Profile.{Profile}
use Rattle.logic.specs.declared.Answer.{Answer}
use Rattle.logic.specs.Numbers.{yes_number, output_length}
use Rattle.logic.specs.Checks.{Checks, done, check, ◌then◌, upto, Passes, Answers}
use Rattle.logic.specs.CheckLaws.{Yes, Refuses}
use Rattle.logic.proofs.CheckLaws.{refuses_upto, passes_of_yes, passes_then, then_passes, answers_refused, answers_after}
use Rattle.logic.specs.Formula.{Form}
use Rattle.logic.specs.Table.{Sound, tree}
use Rattle.logic.specs.Book.{most, vars_of, locs_of, formula_of, nodes, root, Known, Bodies}
use Rattle.logic.proofs.OpenLaws.{vars_low, locs_low, known}
use Rattle.logic.specs.Candidates.{model_bytes}
use Rattle.logic.specs.Strays.{name_checks}
use Rattle.logic.specs.Search.{CandidateFits, FitsAt, room_checks, search_rest, Searches}
use Rattle.logic.proofs.SearchLaws.{searches_rest, searches_wrote, searches_kept}
use Rattle.cells.specs.Cells.{cells}
use Rattle.judge.specs.Setting.{room}
use Rattle.packing.specs.SameTable.{same_tree, same_sound}
use Rattle.candidates.specs.declared.Candidate.{Candidate}
use Rattle.candidates.specs.Counter.{WithinBounds}
use Rattle.hunt.specs.declared.Ended.{Ended}
use Rattle.hunt.specs.declared.Ended.TheVariants.{Found, Nothing, Spent}
use Rattle.hunt.specs.Hunt.{told, Hunted}
use Rattle.hunt.specs.HuntLaws.{at_model}

-- ---- the formula f, and the hunt in a table t with the same bytes

module _ (v n : ℕ) (f t : List ℕ) (same : (i : ℕ) → get_or t i 0 ≡ get_or f i 0) where
  pub hunt_ready : Known v f → v ≤ most → n ≤ most → (root f < room) × Sound v t (suc (root f)) × (v ≤ most) × (n ≤ most)
  hunt_ready q lv ln =
      let last : nodes f ≡ suc (root f) = omega (arith, q.some) in
      (omega (arith, q.few, q.some), same_sound f t same v (suc (root f)) (subst (Sound v f) last q.sound), lv, ln)

  pub hunted_in : (π : Profile) (p budget : ℕ) (r : Ended) → Hunted v n (CandidateFits π v n p (tree t (root f))) budget r → Hunted v n (CandidateFits π v n p (tree f (root f))) budget r
  hunted_in π p budget r q = subst (λ (F : Form). Hunted v n (CandidateFits π v n p F) budget r) (same_tree f t same (root f)) q

-- a hunt that did not end at a model does not say so
pub not_found : (r : Ended) → ((tried : ℕ) (c : Candidate) → ¬ (r ≡ Found tried c)) → ¬ ((told r).number ≡ yes_number)
not_found (Found tried c) n e = n tried c refl
not_found (Nothing tried) n e = omega arith
not_found (Spent tried) n e = omega arith

-- ---- an accepted book: f is its formula, and v, n and p are its bounds

module _ (π : Profile) (s f : List ℕ) (v n p : ℕ) (q : Bodies s f v n p) (budget : ℕ) (o : List ℕ) where
  pub usable : Known v f × (v ≤ most) × (n ≤ most)
  usable = (known s f v n p q, vars_low s f v n p q, locs_low s f v n p q)

  abbrev space_checks : Checks
  space_checks = check (v + n ≤ length o) output_length 0 done

  same_rest : upto (name_checks f) v then space_checks ≡ search_rest s o
  same_rest = rw (q.vars, q.locs, q.formula)

  -- a stray variable
  pub answer_stray : (a : Answer) → Answers (upto (name_checks f) v) Yes a → ¬ (a.number ≡ yes_number) → Searches π s budget o a o
  answer_stray a r w =
      searches_rest π s budget o q.accepted a (subst (λ (c : Checks). Answers c Yes a) same_rest (answers_refused (upto (name_checks f) v) Yes space_checks a r w)) w

  module _ (a : Answer) (r : Answers (upto (name_checks f) v) Yes a) (z : a.number ≡ yes_number) where
    names_pass : Passes (upto (name_checks f) v)
    unfolding Refuses
    names_pass = passes_of_yes (upto (name_checks f) v) a (refuses_upto (name_checks f) (λ i. (omega arith, tt)) v) r z

    -- an output that is too short
    pub answer_short : (b : Answer) → Answers space_checks Yes b → ¬ (b.number ≡ yes_number) → Searches π s budget o b o
    answer_short b t w =
        searches_rest π s budget o q.accepted b (subst (λ (c : Checks). Answers c Yes b) same_rest (answers_after (upto (name_checks f) v) space_checks Yes b names_pass t)) w

    pub rest_passes : (b : Answer) → Answers space_checks Yes b → b.number ≡ yes_number → Passes (search_rest s o)
    unfolding Refuses
    rest_passes b t y =
        subst Passes same_rest (passes_then (upto (name_checks f) v) space_checks names_pass (passes_of_yes space_checks b (omega arith, tt) t y))

  module _ (rest : Passes (search_rest s o)) where
    of_the_book : (r : Ended) → Hunted v n (CandidateFits π v n p (tree f (root f))) budget r → Hunted (vars_of s) (locs_of s) (FitsAt π s) budget r
    of_the_book r h =
        let same : Hunted v n (CandidateFits π v n p (tree f (root f))) budget r ≡ Hunted (vars_of s) (locs_of s) (FitsAt π s) budget r = rw (q.vars, q.locs, q.path, q.formula) in
        subst (λ (P : Type 0). P) same h

    space_is : vars_of s + locs_of s ≤ length o
    unfolding Passes
    space_is = (then_passes (upto (name_checks (formula_of s)) (vars_of s)) (room_checks s o) rest).1.0

    -- a model is found
    module _ (tried : ℕ) (c : Candidate) (h : Hunted v n (CandidateFits π v n p (tree f (root f))) budget (Found tried c)) where
      -- it is in range, and there is room for it
      pub write_ready : WithinBounds c × (c.vars + c.locs ≤ length o)
      write_ready =
          let k = (of_the_book (Found tried c) h).at in
          (k.range, omega (arith, k.vars, k.locs, space_is))

      pub answer_wrote : (o' : List ℕ) → o' ≡ model_bytes c.vars c.locs (cells c.stack) (cells c.heap) ++ drop (c.vars + c.locs) o → Searches π s budget o (told (Found tried c)) o'
      answer_wrote o' w =
          let b = of_the_book (Found tried c) h in
          let k = b.at in
          searches_wrote π s budget o q.accepted rest (told (Found tried c)) b.outcome o' refl
          (w ∙ ap₂ (λ (x y : ℕ). model_bytes x y (cells c.stack) (cells c.heap) ++ drop (x + y) o) k.vars k.locs
          ∙ ap (λ (m : List ℕ). m ++ drop (vars_of s + locs_of s) o) (at_model (vars_of s) (locs_of s) (tried - 1) c k))

    -- or none is
    pub answer_kept : (r : Ended) → Hunted v n (CandidateFits π v n p (tree f (root f))) budget r → ¬ ((told r).number ≡ yes_number) → Searches π s budget o (told r) o
    answer_kept r h e = searches_kept π s budget o q.accepted rest (told r) (of_the_book r h).outcome e
