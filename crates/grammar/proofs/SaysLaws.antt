-- The book's formula holds exactly where the text says so. Assumes nothing.
use Rattle.std.specs.Prelude.{◌≡◌, refl, ◌⊎◌, ℕ, suc, ◌≤◌}
use Rattle.std.proofs.Common.{subst, arith}
use Rattle.std.proofs.Math.Logic.{inl, inr, ⊎_elim}
use Rattle.logic.specs.declared.Profile.{Profile}
use Rattle.logic.specs.Heap.{Map, Heap, Locs, Parts}
use Rattle.logic.specs.Formula.{Form}
use Rattle.logic.specs.Formula.Form.{same, diff, sep}
use Rattle.logic.specs.Holds.{Holds}
use Rattle.logic.specs.Truth.{truth}
use Rattle.logic.proofs.Reflect.{decided}
use Rattle.logic.proofs.TruthHolds.{truth_holds}
use Rattle.logic.proofs.Agree.{first_heap, second_heap, union_heap, union_is}
use Rattle.grammar.specs.Phrase.{Term, Phrase, emp, join, deny, relate}
use Rattle.grammar.specs.Phrase.Join.{and_word, or_word, sep_word, wand_word}
use Rattle.grammar.specs.Phrase.Atom.{equal_word, distinct_word, pto_word, ls_word}
use Rattle.grammar.specs.Meaning.{anything, form_of}
use Rattle.grammar.specs.Says.{Says}
use Rattle.grammar.specs.SaysLaws.{Iff}

abbrev nothing : Map
nothing = λ ℓ. 0

no_locs : (ℓ : ℕ) → ¬ Locs nothing ℓ
no_locs ℓ (inl f) = f refl
no_locs ℓ (inr q) = let z : 0 ≡ suc ℓ = q.1 in omega arith

module _ (π : Profile) (v n : ℕ) (s : Map) where
  -- what holds on the empty heap holds, beside anything, on any heap
  beside : (h : Map) (A : Form) → Holds π v n A s nothing → Holds π v n (sep A anything) s h
  unfolding Holds
  beside h A q = (nothing, h, λ ℓ. inr (refl, refl), record { alone = λ ℓ u. u.0 refl; meet = λ ℓ u w. absurd (no_locs ℓ u) }, q, λ u. u.0 refl)

  pub sure : ((x : ℕ) → s x ≤ n) → (F : Form) (h : Map) → Heap n h → Holds π v n F s h ⊎ (¬ Holds π v n F s h)
  sure low F h k = decided (truth π v n F s h) (truth_holds π v n s low F h k)

pub whole_heap : (n : ℕ) (g h u : Map) → Heap n g → Heap n h → Parts g h u → Heap n u
whole_heap n g h u kg kh q = subst (Heap n) (union_is g h u q) (union_heap n g h kg kh)

module _ (π : Profile) (v n : ℕ) (ν : Term → ℕ) (s : Map) (low : (x : ℕ) → s x ≤ n) where
  abbrev Same : Phrase → Type 0
  Same F = (h : Map) → Heap n h → Iff (Says π v n ν s F h) (Holds π v n (form_of ν F) s h)

  same_wand : (F G : Phrase) → Same F → Same G → Same (join wand_word F G)
  unfolding Says Holds form_of
  same_wand F G a b h k =
      record {
        to = λ f q. q.6 ((b q.1 (whole_heap n q.0 h q.1 q.2 k q.3)).to (f q.0 q.1 q.2 q.3 q.4 ((a q.0 q.2).from q.5)));
        from = λ f g u kg q d x.
            let hu = whole_heap n g h u kg k q in
            ⊎_elim (λ y. (b u hu).from y) (λ z. absurd (f (g, u, kg, q, d, (a g kg).to x, z))) (sure π v n s low (form_of ν G) u hu);
      }

  same_sep : (F G : Phrase) → Same F → Same G → Same (join sep_word F G)
  unfolding Says Holds form_of
  same_sep F G a b h k =
      record {
        to = λ q. (q.0, q.1, q.2, q.3, (a q.0 (first_heap n q.0 q.1 h q.2 k)).to q.4, (b q.1 (second_heap n q.0 q.1 h q.2 k)).to q.5);
        from = λ q. (q.0, q.1, q.2, q.3, (a q.0 (first_heap n q.0 q.1 h q.2 k)).from q.4, (b q.1 (second_heap n q.0 q.1 h q.2 k)).from q.5);
      }

  pub says_holds : (F : Phrase) (h : Map) → Heap n h → Iff (Says π v n ν s F h) (Holds π v n (form_of ν F) s h)
  unfolding Says Holds form_of
  says_holds emp h k = record { to = λ q. (refl, q); from = λ q. q.1 }
  says_holds (deny F) h k = let a = says_holds F h k in record { to = λ f q. f (a.from q); from = λ f q. f (a.to q) }
  says_holds (join and_word F G) h k =
      let a = says_holds F h k in
      let b = says_holds G h k in
      record { to = λ q. (a.to q.0, b.to q.1); from = λ q. (a.from q.0, b.from q.1) }
  says_holds (join or_word F G) h k =
      let a = says_holds F h k in
      let b = says_holds G h k in
      record { to = ⊎_elim (λ q. inl (a.to q)) (λ q. inr (b.to q)); from = ⊎_elim (λ q. inl (a.from q)) (λ q. inr (b.from q)) }
  says_holds (join sep_word F G) h k = same_sep F G (says_holds F) (says_holds G) h k
  says_holds (join wand_word F G) h k = same_wand F G (says_holds F) (says_holds G) h k
  says_holds (relate equal_word x y) h k = record { to = λ e. beside π v n s h (same (ν x) (ν y)) (e, λ ℓ. refl); from = λ q. q.4.0 }
  says_holds (relate distinct_word x y) h k = record { to = λ e. beside π v n s h (diff (ν x) (ν y)) (e, λ ℓ. refl); from = λ q. q.4.0 }
  says_holds (relate pto_word x y) h k = record { to = λ q. q; from = λ q. q }
  says_holds (relate ls_word x y) h k = record { to = λ q. q; from = λ q. q }
