-- Bytes, words and names that are not each other. Assumes nothing.
use Rattle.std.specs.Prelude.{◌≡◌, refl, Bool, true, false, List, [], ◌∷◌, ℕ, eqb}
use Rattle.std.proofs.Common.{sym, ◌∙◌, subst, ⊎_elim, ne_eqb}
use Rattle.logic.proofs.Reflect.{false_true, is_or, is_eq, is_same_bytes, refutes}
use Rattle.logic.specs.Tests.{same_bytes}
use Rattle.grammar.specs.Phrase.{Word, joins, denies, relates, spelling, lower, letter}
use Rattle.grammar.specs.Phrase.Join.{and_word, or_word, sep_word, wand_word}
use Rattle.grammar.specs.Phrase.Atom.{equal_word, distinct_word, pto_word, ls_word}
use Rattle.grammar.specs.Grammar.{blank}
use Rattle.grammar.specs.Machine.{among, reserved}

-- a byte with the property P is not a byte without
pub other : (P : ℕ → Bool) (b c : ℕ) → P b ≡ true → P c ≡ false → eqb b c ≡ false
other P b c h k = ne_eqb b c (λ e. false_true (sym k ∙ subst (λ (z : ℕ). P z ≡ true) e h))

pub blank_no_letter : (b : ℕ) → blank b ≡ true → letter b ≡ false
blank_no_letter b h = let q = (is_or _ _ (is_eq b _) (is_eq b _)).to h in ⊎_elim (λ e. rw e) (λ e. rw e) q

pub lower_letter : (b : ℕ) → lower b ≡ true → letter b ≡ true
lower_letter b h = rw h

pub lower_no_blank : (b : ℕ) → lower b ≡ true → blank b ≡ false
lower_no_blank b h = go (blank b) refl
  where
    go : (c : Bool) → blank b ≡ c → c ≡ false
    go true e = false_true (sym (blank_no_letter b e) ∙ lower_letter b h)
    go false e = refl

pub none_among : (cs : List Word) (x : List ℕ) → ((c : Word) → ¬ (spelling c ≡ x)) → among cs x ≡ false
unfolding among
none_among [] x f = refl
none_among (c ∷ cs) x f = rw (refutes (same_bytes (spelling c) x) (is_same_bytes (spelling c) x) (f c)) (none_among cs x f)

pub spelling_reserved : (c : Word) → reserved (spelling c) ≡ true
unfolding among same_bytes
spelling_reserved (joins and_word) = refl
spelling_reserved (joins or_word) = refl
spelling_reserved (joins sep_word) = refl
spelling_reserved (joins wand_word) = refl
spelling_reserved denies = refl
spelling_reserved (relates equal_word) = refl
spelling_reserved (relates distinct_word) = refl
spelling_reserved (relates pto_word) = refl
spelling_reserved (relates ls_word) = refl
