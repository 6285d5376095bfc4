-- How the variables of a written formula are numbered when it is read: v of them, each with a number of its own. Assumes nothing.
use Rattle.std.specs.Prelude.{◌≡◌, refl, Bool, true, false, List, [], ◌∷◌, ◌⊎◌, ℕ, zero, suc, ◌≤◌, length}
use Rattle.std.proofs.Math.Path.{sym}
use Rattle.std.proofs.Common.{ap, ◌∙◌, subst, zero-le, arith}
use Rattle.std.proofs.Math.Logic.{⊎_elim}
use Rattle.logic.specs.Formula.{Form}
use Rattle.logic.specs.Formula.Form.{same, diff, pts, ls, conj, disj, but, neg, sep, sept}
use Rattle.logic.proofs.Reflect.{false_true, is_same_bytes}
use Rattle.logic.specs.Tests.{same_bytes}
use Rattle.grammar.specs.Phrase.{choose, Term}
use Rattle.grammar.specs.Places.{known}
use Rattle.grammar.specs.ListingLaws.{Within}
use Rattle.grammar.specs.Meaning.{names_of, position, number_of, form_of}
use Rattle.grammar.specs.NumberLaws.{TermIn, AllIn}
use Rattle.grammar.proofs.NumberLaws.{position_known, more_same, all_in}
use Rattle.imported.specs.Named.{NamedIn}
use Rattle.imported.proofs.NamedLaws.{every_named}
use Rattle.writing.specs.Writing.{name_of, variable, phrase_of}
use Rattle.writing.proofs.TermLaws.{form_terms}
use Rattle.writing.specs.CountLaws.{Counted}
use Rattle.writing.proofs.CountLaws.{count_none, count_all, name_one, counted_collect}

-- a formula's variable is a term of what is written
named_in : (ms : List (List ℕ)) (F : Form) (x : ℕ) → NamedIn F x → AllIn ms (phrase_of F) → TermIn ms (variable x)
unfolding NamedIn AllIn phrase_of
named_in ms (same a b) x q h = ⊎_elim (λ e. subst (λ (i : ℕ). TermIn ms (variable i)) e h.0.0) (λ e. subst (λ (i : ℕ). TermIn ms (variable i)) e h.0.1) q
named_in ms (diff a b) x q h = ⊎_elim (λ e. subst (λ (i : ℕ). TermIn ms (variable i)) e h.0.0) (λ e. subst (λ (i : ℕ). TermIn ms (variable i)) e h.0.1) q
named_in ms (pts a b) x q h = ⊎_elim (λ e. subst (λ (i : ℕ). TermIn ms (variable i)) e h.0) (λ e. subst (λ (i : ℕ). TermIn ms (variable i)) e h.1) q
named_in ms (ls a b) x q h = ⊎_elim (λ e. subst (λ (i : ℕ). TermIn ms (variable i)) e h.0) (λ e. subst (λ (i : ℕ). TermIn ms (variable i)) e h.1) q
named_in ms (conj a b) x q h = ⊎_elim (λ u. named_in ms a x u h.0) (λ u. named_in ms b x u h.1) q
named_in ms (disj a b) x q h = ⊎_elim (λ u. named_in ms a x u h.0) (λ u. named_in ms b x u h.1) q
named_in ms (but a b) x q h = ⊎_elim (λ u. named_in ms a x u h.0) (λ u. named_in ms b x u h.1) q
named_in ms (neg a) x q h = named_in ms a x q h
named_in ms (sep a b) x q h = ⊎_elim (λ u. named_in ms a x u h.0) (λ u. named_in ms b x u h.1) q
named_in ms (sept a b) x q h = ⊎_elim (λ u. named_in ms a x u h.0) (λ u. named_in ms b x u h.1) q

-- the number y, if it isn't nil's, is that of one of the variables up to v
module _ (v y : ℕ) (ν : Term → ℕ) (l : 1 ≤ y) where
  abbrev Of : Type 0
  Of = (x : ℕ) × (x ≤ v) × (ν (variable x) ≡ y)

  of_two : (a b : ℕ) → (a ≤ v) × (b ≤ v) → (ν (variable a) ≡ y) ⊎ (ν (variable b) ≡ y) → Of
  of_two a b w q = ⊎_elim (λ e. (a, w.0, e)) (λ e. (b, w.1, e)) q

  of_nil : (0 ≡ y) ⊎ (0 ≡ y) → Of
  of_nil q = absurd (⊎_elim (λ (e : 0 ≡ y). omega arith) (λ (e : 0 ≡ y). omega arith) q)

  number_of_is : (F : Form) → Within v F → NamedIn (form_of ν (phrase_of F)) y → Of
  unfolding NamedIn form_of phrase_of Within
  number_of_is (same a b) w q = ⊎_elim (⊎_elim (of_two a b w) of_nil) of_nil q
  number_of_is (diff a b) w q = ⊎_elim (⊎_elim (of_two a b w) of_nil) of_nil q
  number_of_is (pts a b) w q = of_two a b w q
  number_of_is (ls a b) w q = of_two a b w q
  number_of_is (conj a b) w q = ⊎_elim (number_of_is a w.0) (number_of_is b w.1) q
  number_of_is (disj a b) w q = ⊎_elim (number_of_is a w.0) (number_of_is b w.1) q
  number_of_is (but a b) w q = ⊎_elim (number_of_is a w.0) (number_of_is b w.1) q
  number_of_is (neg a) w q = number_of_is a w q
  number_of_is (sep a b) w q = ⊎_elim (number_of_is a w.0) (number_of_is b w.1) q
  number_of_is (sept a b) w q = ⊎_elim (number_of_is a w.0) (number_of_is b w.1) q

-- two names with one place are one
position_one : (ns : List (List ℕ)) (x y : List ℕ) → known ns x ≡ true → known ns y ≡ true → position ns x ≡ position ns y → x ≡ y
unfolding known position
position_one [] x y p q e = false_true p
position_one (z ∷ ns) x y p q e = go (same_bytes z x) (same_bytes z y) refl refl (position_one ns x y) e
  where
    go : (c d : Bool) → same_bytes z x ≡ c → same_bytes z y ≡ d → (known ns x ≡ true → known ns y ≡ true → position ns x ≡ position ns y → x ≡ y)
        → choose c 0 (suc (position ns x)) ≡ choose d 0 (suc (position ns y)) → x ≡ y
    go true true a b ih m = sym ((is_same_bytes z x).to a) ∙ (is_same_bytes z y).to b
    go true false a b ih m = absurd (omega arith)
    go false true a b ih m = absurd (omega arith)
    go false false a b ih m = ih (rw a at p) (rw b at q) (omega arith)

-- every variable up to v is named in the formula F
module _ (v : ℕ) (F : Form) (w : Within v F) (named : (x : ℕ) → 1 ≤ x → x ≤ v → NamedIn F x) where
  abbrev names : List (List ℕ)
  names = names_of (phrase_of F)

  known_in : (x : ℕ) → x ≤ v → TermIn names (variable x)
  known_in zero l = tt
  known_in (suc i) l = named_in names F (suc i) (named (suc i) (omega arith) l) (all_in (phrase_of F) [] names (more_same names))

  none_counted : Counted v []
  unfolding known
  none_counted = sym (count_none v (λ i. false) (λ i. refl))

  pub names_long : length (names_of (phrase_of F)) ≡ v
  names_long = counted_collect v (phrase_of F) [] (form_terms v F w) none_counted ∙ count_all v (λ i. known names (name_of i)) (λ i l. known_in (suc i) l)

  pub number_low : (x : ℕ) → x ≤ v → number_of (names_of (phrase_of F)) (variable x) ≤ v
  number_low zero l = zero-le
  number_low (suc i) l = omega (arith, position_known names (name_of i) (known_in (suc i) l), names_long)

  -- no number is left over
  pub number_onto : (y : ℕ) → y ≤ v → (x : ℕ) × (x ≤ v) × (number_of (names_of (phrase_of F)) (variable x) ≡ y)
  number_onto zero l = (0, zero-le, refl)
  number_onto (suc i) l =
      number_of_is v (suc i) (number_of names) (omega arith) F w (every_named (phrase_of F) [] names (more_same names) i zero-le (omega (arith, names_long)))

  -- no two variables have one number
  pub number_one : (x y : ℕ) → x ≤ v → y ≤ v → number_of (names_of (phrase_of F)) (variable x) ≡ number_of (names_of (phrase_of F)) (variable y) → x ≡ y
  number_one zero zero l h e = refl
  number_one zero (suc j) l h e = absurd (omega arith)
  number_one (suc i) zero l h e = absurd (omega arith)
  number_one (suc i) (suc j) l h e =
      ap suc (name_one i j (position_one names (name_of i) (name_of j) (known_in (suc i) l) (known_in (suc j) h) (omega arith)))
