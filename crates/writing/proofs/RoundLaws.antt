-- A formula that was written and read again holds on the same heaps, once variables are matched by name. Assumes nothing.
use Rattle.std.specs.Prelude.{◌≡◌, ◌⊎◌, ℕ, ◌≤◌}
use Rattle.std.proofs.Common.{sym, subst, inl, inr, ⊎_elim}
use Rattle.logic.specs.declared.Profile.{Profile}
use Rattle.logic.specs.declared.Profile.TheVariants.{Strong, Ordinary}
use Rattle.logic.specs.Heap.{Map, Heap, Named, MayMeet, Disjoint, Empty}
use Rattle.logic.specs.Formula.{Form}
use Rattle.logic.specs.Formula.Form.{same, diff, pts, ls, conj, disj, but, neg, sep, sept}
use Rattle.logic.specs.Holds.{Holds, Points, Segment}
use Rattle.logic.proofs.Agree.{first_heap, second_heap}
use Rattle.grammar.specs.Phrase.{Term, join, deny}
use Rattle.grammar.specs.Phrase.Join.{sep_word, wand_word}
use Rattle.grammar.specs.ListingLaws.{Within}
use Rattle.grammar.specs.Meaning.{form_of}
use Rattle.grammar.specs.Says.{Says}
use Rattle.grammar.specs.SaysLaws.{Iff}
use Rattle.grammar.proofs.SaysLaws.{sure, whole_heap, says_holds}
use Rattle.writing.specs.Writing.{variable, phrase_of}

pub iff_self : (A : Type 0) → Iff A A
iff_self A = record { to = λ a. a; from = λ a. a }

pub iff_both : (A B C D : Type 0) → Iff A B → Iff C D → Iff (A × C) (B × D)
iff_both A B C D f g = record { to = λ q. (f.to q.0, g.to q.1); from = λ q. (f.from q.0, g.from q.1) }

iff_either : (A B C D : Type 0) → Iff A B → Iff C D → Iff (A ⊎ C) (B ⊎ D)
iff_either A B C D f g = record { to = ⊎_elim (λ q. inl (f.to q)) (λ q. inr (g.to q)); from = ⊎_elim (λ q. inl (f.from q)) (λ q. inr (g.from q)) }

iff_not : (A B : Type 0) → Iff A B → Iff (¬ A) (¬ B)
iff_not A B f = record { to = λ q b. q (f.from b); from = λ q a. q (f.to a) }

-- what follows from two numbers follows from equal ones
iff_at : (P : ℕ → ℕ → Type 0) (a b c d : ℕ) → a ≡ c → b ≡ d → Iff (P a b) (P c d)
iff_at P a b c d e f =
    record {
      to = λ q. subst (λ (y : ℕ). P c y) f (subst (λ (x : ℕ). P x b) e q);
      from = λ q. subst (λ (y : ℕ). P a y) (sym f) (subst (λ (x : ℕ). P x d) (sym e) q);
    }

-- where a location that is named stays named, two heaps may still meet
may_meet_alike : (π : Profile) (v : ℕ) (s t : Map) (ℓ : ℕ) → (Named v s ℓ → Named v t ℓ) → MayMeet π v s ℓ → MayMeet π v t ℓ
may_meet_alike Strong v s t ℓ f q = f q
may_meet_alike Ordinary v s t ℓ f q = tt

-- two stacks with the same named locations, and with the same location for each variable of s and its name's variable of t
module _ (π : Profile) (v n : ℕ) (s t : Map) (ν : Term → ℕ) (low : (x : ℕ) → s x ≤ n) (match : (x : ℕ) → x ≤ v → t (ν (variable x)) ≡ s x)
    (there : (ℓ : ℕ) → Named v s ℓ → Named v t ℓ) (back : (ℓ : ℕ) → Named v t ℓ → Named v s ℓ) where
  apart_there : (g h : Map) → Disjoint π v s g h → Disjoint π v t g h
  apart_there g h d = record { alone = d.alone; meet = λ ℓ a b. may_meet_alike π v s t ℓ (there ℓ) (d.meet ℓ a b) }

  apart_back : (g h : Map) → Disjoint π v t g h → Disjoint π v s g h
  apart_back g h d = record { alone = d.alone; meet = λ ℓ a b. may_meet_alike π v t s ℓ (back ℓ) (d.meet ℓ a b) }

  -- what is said of the operands of an atom is said of their names
  at_names : (P : ℕ → ℕ → Type 0) (x y : ℕ) → (x ≤ v) × (y ≤ v) → Iff (P (t (ν (variable x))) (t (ν (variable y)))) (P (s x) (s y))
  at_names P x y w = iff_at P (t (ν (variable x))) (t (ν (variable y))) (s x) (s y) (match x w.0) (match y w.1)

  abbrev Same : Form → Type 0
  Same F = (h : Map) → Heap n h → Iff (Says π v n ν t (phrase_of F) h) (Holds π v n F s h)

  same_parts : (a b : Form) → Same a → Same b → (h : Map) → Heap n h → Iff (Says π v n ν t (join sep_word (phrase_of a) (phrase_of b)) h) (Holds π v n (sep a b) s h)
  unfolding Holds Says
  same_parts a b f g h k =
      record {
        to = λ q. (q.0, q.1, q.2, apart_back q.0 q.1 q.3, (f q.0 (first_heap n q.0 q.1 h q.2 k)).to q.4, (g q.1 (second_heap n q.0 q.1 h q.2 k)).to q.5);
        from = λ q. (q.0, q.1, q.2, apart_there q.0 q.1 q.3, (f q.0 (first_heap n q.0 q.1 h q.2 k)).from q.4, (g q.1 (second_heap n q.0 q.1 h q.2 k)).from q.5);
      }

  -- a wand to a denial says that no added heap serves a septraction
  no_added : (a b : Form) → Same a → Same b → (h : Map) → Heap n h → Iff (Says π v n ν t (join wand_word (phrase_of a) (deny (phrase_of b))) h) (¬ Holds π v n (sept a b) s h)
  unfolding Holds Says
  no_added a b f g h k =
      record {
        to = λ q w.
            q w.0 w.1 w.2 w.3 (apart_there w.0 h w.4) ((f w.0 w.2).from w.5)
            ((g w.1 (whole_heap n w.0 h w.1 w.2 k w.3)).from w.6);
        from = λ q r u kr e d x y. q (r, u, kr, e, apart_back r h d, (f r kr).to x, (g u (whole_heap n r h u kr k e)).to y);
      }

  -- so its denial says that one does
  some_added : (F : Form) (h : Map) (A : Type 0) → Heap n h → Iff A (¬ Holds π v n F s h) → Iff (¬ A) (Holds π v n F s h)
  some_added F h A k f = record { to = λ q. ⊎_elim (λ y. y) (λ z. absurd (q (f.from z))) (sure π v n s low F h k); from = λ q a. f.to a q }

  -- the text says so exactly where the formula that was written holds
  pub round_says : (F : Form) → Within v F → (h : Map) → Heap n h → Iff (Says π v n ν t (phrase_of F) h) (Holds π v n F s h)
  unfolding Holds Says phrase_of Within
  round_says (same x y) w h k = iff_both _ _ _ _ (at_names (λ a b. a ≡ b) x y w) (iff_self (Empty h))
  round_says (diff x y) w h k = iff_both _ _ _ _ (at_names (λ a b. ¬ (a ≡ b)) x y w) (iff_self (Empty h))
  round_says (pts x y) w h k = at_names (λ a b. Points a b h) x y w
  round_says (ls x y) w h k = at_names (λ a b. Segment a b h) x y w
  round_says (conj a b) w h k = iff_both _ _ _ _ (round_says a w.0 h k) (round_says b w.1 h k)
  round_says (disj a b) w h k = iff_either _ _ _ _ (round_says a w.0 h k) (round_says b w.1 h k)
  round_says (but a b) w h k = iff_both _ _ _ _ (round_says a w.0 h k) (iff_not _ _ (round_says b w.1 h k))
  round_says (neg a) w h k = iff_not _ _ (round_says a w h k)
  round_says (sep a b) w h k = same_parts a b (round_says a w.0) (round_says b w.1) h k
  round_says (sept a b) w h k = some_added (sept a b) h _ k (no_added a b (round_says a w.0) (round_says b w.1) h k)

  -- and the formula that is read holds exactly there
  pub round : ((x : ℕ) → t x ≤ n) → (F : Form) → Within v F → (h : Map) → Heap n h → Iff (Holds π v n (form_of ν (phrase_of F)) t h) (Holds π v n F s h)
  round low' F w h k =
      let a = says_holds π v n ν t low' (phrase_of F) h k in
      let b = round_says F w h k in
      record { to = λ q. b.to (a.from q); from = λ q. a.to (b.from q) }
